-- The three tables of the words as one: what is recorded of flows and of both kinds of access, and what an effect leaves recorded.
-- Assumes nothing.
use Rattle.std.specs.Prelude.{◌≡◌, refl, Bool, true, ◌&&◌, ◌||◌, ◌⊎◌, ℕ, ◌<◌, eqb}
use Rattle.std.proofs.Common.{sym, ◌∙◌, eqb-true}
use Rattle.std.proofs.Math.Bool.{not, and-eq-true_iff}
use Rattle.std.proofs.Math.Logic.{inl, inr, ⊎_elim}
use Rattle.bits.specs.AllLaws.{or_cases}
use Rattle.rows.specs.Rows.{cell, add_cell}
use Rattle.rows.specs.Size.{Size, row_size_of, numbers_of}
use Rattle.model.specs.State.{MemoryOf, flow_row, read_row, write_row, has_flow, has_read, has_write}
use Rattle.model.specs.Effects.{Effect, flow, read_access, write_access, bridge, clear, feeder, fed_by, with_words, effect}
use Rattle.model.proofs.EffectLaws.{Long, Fits, cell_after, flow_after, read_after, write_after}

pub data Table : Type 0 where
  flows : Table
  reads : Table
  writes : Table

abbrev pub row : Size → Table → ℕ → ℕ
row size flows x = flow_row x
row size reads x = read_row size x
row size writes x = write_row size x

-- a flow or an access of x to y is recorded there: has_flow, has_read or has_write
abbrev pub has : {size : Size} → Table → MemoryOf size → ℕ → ℕ → Bool
has {size} t m x y = cell (row_size_of size) m.words (row size t x) y

-- the number of a table, and the effect that records x and y there
index : Table → ℕ
index flows = 0
index reads = 1
index writes = 2

abbrev recording : Table → ℕ → ℕ → Effect
recording flows x y = flow x y
recording reads x y = read_access x y
recording writes x y = write_access x y

module _ {size : Size} (m : MemoryOf size) (l : Long m) (u v : ℕ) (lu : u < numbers_of size) (lv : v < numbers_of size) where
  has_after : (e : Effect) → Fits size e → (s : Table) → has s (effect e m) u v ≡ cell_after m (index s) u v e (has s m u v)
  unfolding has_flow has_read has_write index
  has_after e f flows = flow_after u v lu lv e m l f
  has_after e f reads = read_after u v lu lv e m l f
  has_after e f writes = write_after u v lu lv e m l f

  pub has_clear : (x : ℕ) → x < numbers_of size → (s : Table) → has s (effect (clear x) m) u v ≡ (has s m u v && not (eqb u x) && not (eqb v x))
  has_clear x lx s = has_after (clear x) lx s

  -- what is recorded after bridging past x was recorded, or is a flow from what feeds x to what x feeds
  pub has_bridged : (x : ℕ) (s : Table) → has s (effect (bridge x) m) u v ≡ true → (has s m u v ≡ true) ⊎ ((s ≡ flows) × (feeder m x u ≡ true) × (fed_by m x v ≡ true))
  unfolding index
  has_bridged x flows h =
      ⊎_elim (λ e. inl e) (λ e. let d = simp and-eq-true_iff at e in inr (refl, d.0, d.1.0))
      (or_cases (has flows m u v) (feeder m x u && (fed_by m x v && not (eqb v u))) (sym (has_after (bridge x) tt flows) ∙ h))
  has_bridged x reads h = inl (sym (has_after (bridge x) tt reads) ∙ h)
  has_bridged x writes h = inl (sym (has_after (bridge x) tt writes) ∙ h)

  module _ (x y : ℕ) (lx : x < numbers_of size) (ly : y < numbers_of size) where
    here : (s : Table) → (has s m u v || (eqb u x && eqb v y)) ≡ true → (has s m u v ≡ true) ⊎ ((s ≡ s) × (u ≡ x) × (v ≡ y))
    here s h =
        ⊎_elim (λ e. inl e) (λ e. let d = simp and-eq-true_iff at e in inr (refl, eqb-true u x d.0, eqb-true v y d.1))
        (or_cases (has s m u v) (eqb u x && eqb v y) h)

    added : (s t : Table) → cell_after m (index s) u v (recording t x y) (has s m u v) ≡ true → (has s m u v ≡ true) ⊎ ((s ≡ t) × (u ≡ x) × (v ≡ y))
    unfolding index
    added flows flows h = here flows h
    added reads reads h = here reads h
    added writes writes h = here writes h
    added flows reads h = inl h
    added flows writes h = inl h
    added reads flows h = inl h
    added reads writes h = inl h
    added writes flows h = inl h
    added writes reads h = inl h

    -- what is recorded after x and y are, was recorded or is that
    pub has_added : (s t : Table) → has s (with_words m (add_cell (row_size_of size) m.words (row size t x) y)) u v ≡ true
        → (has s m u v ≡ true) ⊎ ((s ≡ t) × (u ≡ x) × (v ≡ y))
    unfolding effect
    has_added s flows h = added s flows (sym (has_after (flow x y) (lx, ly) s) ∙ h)
    has_added s reads h = added s reads (sym (has_after (read_access x y) (lx, ly) s) ∙ h)
    has_added s writes h = added s writes (sym (has_after (write_access x y) (lx, ly) s) ∙ h)
