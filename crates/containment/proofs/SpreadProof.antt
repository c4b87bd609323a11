-- Every granted spread marks exactly what chains reach.
-- Assumes nothing.
use Rattle.std.specs.Prelude.{◌≡◌, true, ℕ}
use Rattle.std.proofs.Common.{ap, ◌∙◌}
use Rattle.rows.specs.Size.{Size}
use Rattle.levels.specs.declared.Order.{Order}
use Rattle.records.specs.Records.{sound_of}
use Rattle.records.specs.RecordLaws.{long}
use Rattle.model.specs.Verdicts.{is_done}
use Rattle.model.specs.State.{MemoryOf, marked}
use Rattle.model.specs.Spread.{spread}
use Rattle.model.proofs.TableLaws.{fitted_done}
use Rattle.model.proofs.MarkLaws.{kept_marked, kept_in_use, kept_object, kept_driver, kept_flow}
use Rattle.model.proofs.SoundLaws.{marked_used}
use Rattle.model.proofs.SpreadLaws.{Sized, sized_more, Closed, MarksIn, rest_closed, spread_more, spread_only, spread_rests}
use Rattle.containment.specs.Chains.{Chain, first, by_flow_law, by_driver_law}
use Rattle.containment.specs.Claims.{Exact, SpreadExact}

module _ {size : Size} (o : Order) (m : MemoryOf size) (ok : sound_of size o m.bytes ≡ true) where
  sized : Sized m
  sized = long size o m.bytes ok

  -- what is marked before is the first of a chain: a free number has no mark
  marked_first : MarksIn (Chain m) m
  marked_first x l e = first x l (marked_used o m ok x e) e

  chains_closed : Closed m (Chain m)
  chains_closed = record { by_flow_law = by_flow_law; by_driver_law = by_driver_law }

  marked_closed : Closed (spread m).memory (λ x. marked (spread m).memory x ≡ true)
  marked_closed = rest_closed (spread m).memory (sized_more (spread_more m) sized) (spread_rests m sized)

  -- what a chain reaches is marked
  chain_marked : {x : ℕ} → Chain m x → marked (spread m).memory x ≡ true
  chain_marked (first x l u e) = kept_marked (spread_more m) x e
  chain_marked (by_flow_law x y c l u f) = marked_closed.by_flow_law x y (chain_marked c) l (kept_in_use (spread_more m) y ∙ u) (kept_flow (spread_more m) x y ∙ f)
  chain_marked (by_driver_law x y c l d e) = marked_closed.by_driver_law x y (chain_marked c) l (kept_object (spread_more m) y ∙ d) (kept_driver (spread_more m) y ∙ e)

  exact : Exact m (spread m).memory
  exact =
      record {
        by_chains = λ x l. (spread_only (Chain m) m chains_closed sized marked_first x l, chain_marked);
        words_kept = (spread_more m).words_kept;
        bytes_kept = λ x f l. (spread_more m).bytes_kept x f;
        marks_kept = λ x l. (spread_more m).marks_kept x;
        at_rest = spread_rests m sized;
      }

pub spread_exact : SpreadExact
spread_exact size o m g = let f = fitted_done o m (spread m) (ap is_done g) in rw f.inner (exact o m f.sound_bytes)
