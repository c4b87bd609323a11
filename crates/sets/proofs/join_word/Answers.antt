-- What is joined and what is left to join make the same at every turn.
-- Assumes nothing.
use Rattle.std.proofs.Common.{◌≡◌, sym, ap, ◌∙◌, Bool, ◌||◌, ℕ, ◌-◌, ◌^◌, ◌<◌, bit_and, arith, rules}
use Rattle.std.specs.Int.Bits.{and_lt}
use Rattle.std.proofs.lemmas.Nat.{or_lt}
use Rattle.std.proofs.Math.Pow.{ones_sub-lt}
use Rattle.bits.specs.WordsLaws.{Fit}
use Rattle.rows.specs.Size.{row_size}
use Rattle.sets.specs.Sets.{has, in_word, joined}
use Rattle.sets.specs.SetLaws.{pair, turned, fits, set_is, word_within, has_join}
use Rattle.sets.specs.WalkLaws.{joined_next, joined_end, rest_less}
use Rattle.sets.proofs.join_word.Goals as goal

pub loop-rest-preserved : goal.loop-rest-preserved
loop-rest-preserved c =
    let l = c.loop-rest in
    let a = c.args in
    let table : Fit a.words.now = record { word = λ j. (c.type_inv.words j).fits } in
    let p : 0 < l.rest = omega arith in (
      omega (arith, rest_less l.rest p),
      fits (or_lt 64 _ _ (l.invariant.1.word 0) (table.word _)) (and_lt 64 _ _ (l.invariant.1.word 1) (ones_sub-lt 64 _)),
      λ x b. ap (λ (q : Bool). q || joined row_size a.words.now (in_word (bit_and l.rest (l.rest - 1)) a.first) x) (has_join a.words.now table l.low l.missed _ x (l.invariant.1.word 1) b)
          ∙ joined_next row_size a.words.now (has (turned l.low l.missed) x) l.rest a.first _ x l.invariant.0 p (omega (arith, c.lowest_number.ensures.1)) c.lowest_number.ensures.0 ∙ l.invariant.2 x b,
    )

pub returns : goal.returns
returns c =
    let l = c.loop-rest in
    let a = c.args in
    let e : (2 ^ 64 - 1) - ((2 ^ 64 - 1) - a.onto.high) ≡ a.onto.high = omega arith in (
      set_is _ _ (fits (l.invariant.1.word 0) (ones_sub-lt 64 l.missed))
          (λ x b. sym (joined_end row_size a.words.now (has (turned l.low l.missed) x) l.rest a.first x c.loop-rest-test.false) ∙ l.invariant.2 x b
          ∙ ap (λ (h : ℕ). has (pair a.onto.low h) x || joined row_size a.words.now (in_word a.word a.first) x) e),
      word_within _ _ (search rules) (search rules),
    )
