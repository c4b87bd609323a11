-- A memory of the size in use that has passed rows 2 and 3: an event there is answered as the whole call is.
-- Assumes nothing.
use Rattle.std.specs.Prelude.{◌≡◌, true}
use Rattle.std.proofs.Common.{sym, eqb-true, eq-eqb}
use Rattle.std.proofs.Math.Bool.{and-eq-true_iff}
use Rattle.bits.specs.AllLaws.{and_i}
use Rattle.levels.specs.declared.Order.{Order}
use Rattle.levels.specs.Order.{order_passes}
use Rattle.model.specs.State.{Memory, lengths_fit}
use Rattle.model.specs.Ready.{Ready}
use Rattle.model.specs.Events.{Outcome}
use Rattle.model.specs.Monitor.{fitted}
use Rattle.model.proofs.TableLaws.{fitted_fits}
use Rattle.model.proofs.SoundLaws.{Sound}

pub ready_sound : (o : Order) (m : Memory) → Ready o m.bytes m.words → Sound o m
unfolding lengths_fit
ready_sound o m r = (and_i (eq-eqb _ _ r.0) (eq-eqb _ _ r.1), r.3)

pub sound_ready : (o : Order) (m : Memory) → order_passes o ≡ true → Sound o m → Ready o m.bytes m.words
unfolding lengths_fit
sound_ready o m p s = let l = simp and-eq-true_iff at s.0 in (eqb-true _ _ l.0, eqb-true _ _ l.1, p, s.1)

pub through : (o : Order) (m : Memory) (out : Outcome) → Ready o m.bytes m.words → out ≡ fitted o m out
through o m out r = let s = ready_sound o m r in sym (fitted_fits o m out s.0 s.1 r.2)
