-- The steps that are left find from `at` what all of them find from x.
-- Assumes nothing.
use Rattle.std.proofs.Common.{◌≡◌, ◌-◌}
use Rattle.rows.specs.Size.{present}
use Rattle.model.specs.Inside.{most_steps}
use Rattle.places.specs.Places.{bytes_walk, bytes_inside}
use Rattle.places.proofs.lies_inside.Given as goal

abbrev pub invariant-loop : goal.invariant-loop
invariant-loop l = bytes_walk (most_steps present - l.counter) l.bytes l.at l.y ≡ bytes_inside l.bytes l.x l.y
