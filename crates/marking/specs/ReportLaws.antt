-- Which report it is.
-- Assumes nothing.
use Rattle.std.specs.Prelude.{◌≡◌, true, false, ◌&&◌, eqb, length}
use Rattle.std.proofs.Common.{eq-eqb, ne_eqb}
use Rattle.bits.specs.AllLaws.{and_i, and-false}
use Rattle.rows.specs.Size.{present, WordsLent}
use Rattle.levels.specs.declared.Order.{Order}
use Rattle.levels.specs.Order.{order_passes}
use Rattle.records.specs.Records.{sound, lent_bytes, BytesLent}
use Rattle.records.specs.RecordLaws.{long}
use Rattle.model.specs.Verdicts.{row_state, row_order}
use Rattle.model.specs.State.{Memory, lengths_fit}
use Rattle.model.specs.Monitor.{no_report, report, marked_report}

module _ (o : Order) (m : Memory) where
  pub report_bytes : (BytesLent m.bytes → ⊥) → no_report present row_state ≡ report o m
  unfolding report lengths_fit
  report_bytes n = rw (ne_eqb _ _ n)

  pub report_length : (WordsLent m.words → ⊥) → no_report present row_state ≡ report o m
  unfolding report lengths_fit
  report_length n = rw (ne_eqb _ _ n, and-false (eqb (length m.bytes) (lent_bytes present)))

  pub report_unsound : sound o m.bytes ≡ false → no_report present row_state ≡ report o m
  unfolding report
  report_unsound e = rw (e, and-false (lengths_fit m))

  module _ (w : WordsLent m.words) (e : sound o m.bytes ≡ true) where
    fits : (lengths_fit m && sound o m.bytes) ≡ true
    unfolding lengths_fit
    fits = and_i (and_i (eq-eqb _ _ (long present o m.bytes e)) (eq-eqb _ _ w)) e

    pub report_order : order_passes o ≡ false → no_report present row_order ≡ report o m
    unfolding report
    report_order p = rw (fits, p)

    pub report_whole : order_passes o ≡ true → marked_report m ≡ report o m
    unfolding report
    report_whole p = rw (fits, p)
