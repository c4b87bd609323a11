-- A word that a test found, and the case that none of those with so many numbers is the word.
use Rattle.std.proofs.Common.{sym, arith}
use Rattle.script.specs.Script.{spread_word, mark_word, step_word, call_word, invoke_word, read_word, write_word, pass_word, post_word, find_word, root_word, delete_word, run_word, create_word, move_word}
use Rattle.script.specs.CallLaws.{words, said, none_said, no_none, no_one, no_two, no_three, no_four, no_five, no_more}
use Rattle.script.proofs.calls.call_of.Goals as goal

pub returns-in-empty : goal.returns-in-empty
unfolding spread_word
returns-in-empty c = said 0 _ spread_word _ c.if-is.ensures (omega arith) (words 0 0 0 0 0).spread

pub returns-in-len1 : goal.returns-in-len1
unfolding mark_word
returns-in-len1 c = said 1 _ mark_word _ c.if-is-2.ensures (omega arith) (words _ 0 0 0 0).mark

pub returns-in-len1-2 : goal.returns-in-len1-2
unfolding step_word
returns-in-len1-2 c = said 1 _ step_word _ c.if-is-3.ensures (omega arith) (words _ 0 0 0 0).step

pub returns-in-len2 : goal.returns-in-len2
unfolding call_word
returns-in-len2 c = said 2 _ call_word _ c.if-is-4.ensures (omega arith) (words _ _ 0 0 0).call

pub returns-in-len2-2 : goal.returns-in-len2-2
unfolding invoke_word
returns-in-len2-2 c = said 2 _ invoke_word _ c.if-is-5.ensures (omega arith) (words _ _ 0 0 0).invoke

pub returns-in-len3 : goal.returns-in-len3
unfolding read_word
returns-in-len3 c = said 3 _ read_word _ c.if-is-6.ensures (omega arith) (words _ _ _ 0 0).read

pub returns-in-len3-2 : goal.returns-in-len3-2
unfolding write_word
returns-in-len3-2 c = said 3 _ write_word _ c.if-is-7.ensures (omega arith) (words _ _ _ 0 0).write

pub returns-in-len3-3 : goal.returns-in-len3-3
unfolding pass_word
returns-in-len3-3 c = said 3 _ pass_word _ c.if-is-8.ensures (omega arith) (words _ _ _ 0 0).pass

pub returns-in-len3-4 : goal.returns-in-len3-4
unfolding post_word
returns-in-len3-4 c = said 3 _ post_word _ c.if-is-9.ensures (omega arith) (words _ _ _ 0 0).post

pub returns-in-len3-5 : goal.returns-in-len3-5
unfolding find_word
returns-in-len3-5 c = said 3 _ find_word _ c.if-is-10.ensures (omega arith) (words _ _ _ 0 0).find

pub returns-in-len4 : goal.returns-in-len4
unfolding root_word
returns-in-len4 c = said 4 _ root_word _ c.if-is-11.ensures (omega arith) (words _ _ _ _ 0).root

pub returns-in-len4-2 : goal.returns-in-len4-2
unfolding delete_word
returns-in-len4-2 c = said 4 _ delete_word _ c.if-is-12.ensures (omega arith) (words _ _ _ _ 0).delete

pub returns-in-len5 : goal.returns-in-len5
unfolding run_word
returns-in-len5 c = said 5 _ run_word _ c.if-is-13.ensures (omega arith) (words _ _ _ _ _).run

pub returns-in-len5-2 : goal.returns-in-len5-2
unfolding create_word
returns-in-len5-2 c = said 5 _ create_word _ c.if-is-14.ensures (omega arith) (words _ _ _ _ _).create

pub returns-in-len5-3 : goal.returns-in-len5-3
unfolding move_word
returns-in-len5-3 c = said 5 _ move_word _ c.if-is-15.ensures (omega arith) (words _ _ _ _ _).move

pub returns-in_default : goal.returns-in_default
unfolding spread_word
returns-in_default c = none_said 0 _ _ (omega arith) (no_none _ (sym c.if-is.ensures))

pub returns-in_default-2 : goal.returns-in_default-2
unfolding mark_word step_word
returns-in_default-2 c = none_said 1 _ _ (omega arith) (no_one _ _ (sym c.if-is-2.ensures) (sym c.if-is-3.ensures))

pub returns-in_default-3 : goal.returns-in_default-3
unfolding call_word invoke_word
returns-in_default-3 c = none_said 2 _ _ (omega arith) (no_two _ _ _ (sym c.if-is-4.ensures) (sym c.if-is-5.ensures))

pub returns-in_default-4 : goal.returns-in_default-4
unfolding read_word write_word pass_word post_word find_word
returns-in_default-4 c = none_said 3 _ _ (omega arith) (no_three _ _ _ _ (sym c.if-is-6.ensures) (sym c.if-is-7.ensures) (sym c.if-is-8.ensures) (sym c.if-is-9.ensures) (sym c.if-is-10.ensures))

pub returns-in_default-5 : goal.returns-in_default-5
unfolding root_word delete_word
returns-in_default-5 c = none_said 4 _ _ (omega arith) (no_four _ _ _ _ _ (sym c.if-is-11.ensures) (sym c.if-is-12.ensures))

pub returns-in_default-6 : goal.returns-in_default-6
unfolding run_word create_word move_word
returns-in_default-6 c = none_said 5 _ _ (omega arith) (no_five _ _ _ _ _ _ (sym c.if-is-13.ensures) (sym c.if-is-14.ensures) (sym c.if-is-15.ensures))

pub returns-in_default-7 : goal.returns-in_default-7
returns-in_default-7 c = sym (no_more _ _ (omega arith))
