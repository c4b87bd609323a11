use Rattle.std.proofs.Common.{◌≡◌, ◌*◌, ◌/◌, ◌≤◌, refl, sym, ◌∙◌, arith, eq-eqb, ne_eqb}
use Rattle.rows.specs.Size.{row_size}
use Rattle.records.specs.Records.{is_object}
use Rattle.sets.specs.Sets.{last}
use Rattle.marking.specs.Rounds.{own_row}
use Rattle.marking.proofs.rounds.own_row.Goals as goal
use Rattle.marking.proofs.rounds.own_row.Goals.{After-driver_of-driver}

-- the driver of an object is a number
below : (c : After-driver_of-driver) → c.driver_of-driver.result ≤ last
unfolding is_object
below c = c.driver_of-driver.ensures.1 c.requires.1 (eq-eqb _ 2 (sym c.byte.ensures ∙ c.if-byte-eq-OBJECT.true))

pub put_into-requires : goal.put_into-requires
put_into-requires c = (omega arith, omega (arith, below (goal.at.put_into-requires c).After-driver_of-driver, c.requires.0), c.requires.2)

pub put_into-requires-then-byte-eq-OBJECT : goal.put_into-requires-then-byte-eq-OBJECT
put_into-requires-then-byte-eq-OBJECT c = (refl, omega (arith, c.put_into.auto.owned, c.requires.0), below (goal.at.put_into-requires-then-byte-eq-OBJECT c).After-driver_of-driver)

pub returns-then-byte-eq-OBJECT : goal.returns-then-byte-eq-OBJECT
unfolding own_row is_object
returns-then-byte-eq-OBJECT c =
    let d = c.driver_of-driver.result in
    let e : row_size * d / row_size ≡ d = omega arith in
    rw (eq-eqb _ 2 (sym c.byte.ensures ∙ c.if-byte-eq-OBJECT.true)) (c.put_into-then-byte-eq-OBJECT.ensures ∙ rw (c.put_into.ensures, e, c.driver_of-driver.ensures.0))

pub returns-else-byte-eq-OBJECT : goal.returns-else-byte-eq-OBJECT
unfolding own_row is_object
returns-else-byte-eq-OBJECT c = rw (ne_eqb _ 2 (λ e. c.if-byte-eq-OBJECT.false (c.byte.ensures ∙ e)))
