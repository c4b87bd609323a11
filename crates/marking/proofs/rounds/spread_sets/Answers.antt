use Rattle.std.proofs.Common.{◌≡◌, not, ◌&&◌, List, ℕ, ◌+◌, ◌*◌, sym, ◌∙◌, replicate, rules}
use Rattle.std.proofs.Math.Dec.{eqb}
use borrow.Author.Tests.{not-true, not-false}
use Rattle.rows.specs.Size.{row_size, numbers}
use Rattle.rows.proofs.RowLaws.{cell_zeros}
use Rattle.records.specs.Records.{BytesLent, field}
use Rattle.sets.specs.declared.Set.{Set}
use Rattle.sets.specs.Sets.{has, set_of}
use Rattle.model.specs.State.{memory, in_use, marked}
use Rattle.model.proofs.SpreadLaws.{unmarked}
use Rattle.marking.specs.Rounds.{Table}
use Rattle.marking.specs.OwnedLaws.{owned_table}
use Rattle.marking.specs.SpreadingLaws.{unmarked_set, spreading_first, spreading_next, spreading_end, sets_none}
use Rattle.marking.proofs.rounds.spread_sets.Goals as goal
use Rattle.marking.proofs.rounds.spread_sets.Goals.{After-own_rows}

-- the unmarked things in use at entry
first : (bs ws : List ℕ) {used src left : Set} → used ≡ set_of (λ x. not (eqb (field bs x 0) 0)) → src ≡ set_of (marked (memory bs ws))
    → left ≡ set_of (λ x. has used x && not (has src x)) → left ≡ set_of (λ x. unmarked (memory bs ws) x)
unfolding in_use
first bs ws a b e = unmarked_set (memory bs ws) a b e

pub returns-then-is_empty : goal.returns-then-is_empty
returns-then-is_empty c =
    let a = c.args in
    let lent : BytesLent a.bytes.now = search rules in
    sets_none _ lent (first a.bytes.now a.words.now c.with_field.ensures c.requires.1 c.without-before.ensures) (not-true _ (sym c.is_empty.ensures ∙ c.if-is_empty.true))

pub loop-owned-init : goal.loop-owned-init
loop-owned-init c =
    let a = c.args in
    spreading_first (memory a.bytes.now a.words.now) c.requires.1 c.requires.2 (first a.bytes.now a.words.now c.with_field.ensures c.requires.1 c.without-before.ensures)

-- the rows of the objects of drivers
rows : (c : After-own_rows) → Table (memory c.args.bytes.now c.args.words.now) c.own_rows.new.owned
rows c =
    let a = c.args in
    let f = first a.bytes.now a.words.now c.with_field.ensures c.requires.1 c.without-before.ensures in
    owned_table _ f (replicate (row_size * (numbers + 1)) 0) _ (cell_zeros row_size (row_size * (numbers + 1))) c.own_rows.ensures

pub loop-owned-preserved : goal.loop-owned-preserved
loop-owned-preserved c =
    let lent : BytesLent c.args.bytes.now = search rules in
    let t = rows (goal.at.loop-owned-preserved c).After-own_rows in
    spreading_next _ lent _ t c.loop-owned.invariant c.round-new.ensures (not-false _ (sym c.is_empty-in-loop-owned.ensures ∙ c.if-is_empty-2.false)) c.without-unmarked.ensures

pub returns : goal.returns
returns c =
    let a = c.args in
    let lent : BytesLent a.bytes.now = search rules in
    let f = first a.bytes.now a.words.now c.with_field.ensures c.requires.1 c.without-before.ensures in
    let t = rows (goal.at.returns c).After-own_rows in
    spreading_end _ lent _ t c.loop-owned.invariant c.round-new.ensures (not-true _ (sym c.is_empty-in-loop-owned.ensures ∙ c.if-is_empty-2.true)) f c.without-all.ensures
