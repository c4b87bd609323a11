-- How a list of plain numbers changes, read as a list of tallies.
-- Assumes nothing.
use Rattle.std.specs.Prelude.{◌≡◌, refl, List, [], ◌∷◌, ◌++◌, ℕ, zero, suc, ◌+◌, ◌*◌, ◌/◌, ◌<◌, ◌≤◌, length, replicate, drop, get_or, set}
use Rattle.std.proofs.Common.{sym, ap, ◌∙◌, not-suc-le-zero, le_of_suc-le-suc, arith, append-nil, drop_of_length-le}
use Rattle.std.proofs.Math.ListN.{length-set}
use Rattle.model.specs.declared.Tally.{Tally}
use Rattle.model.specs.Tallies.{nothing_counted, raised, raised_at}
use Rattle.tallies.specs.Counts.{records_in, left_over}

-- ---- how many records there are

pub records_count : (ns : List ℕ) → length (records_in ns) ≡ length ns / 3
unfolding records_in
records_count [] = refl
records_count (g ∷ []) = refl
records_count (g ∷ s ∷ []) = refl
records_count (g ∷ s ∷ r ∷ ns) = let e = records_count ns in omega arith

-- ---- one record further on stand three numbers more

next : (i : ℕ) → 3 * suc i ≡ suc (suc (suc (3 * i)))
next i = omega arith

second : (i : ℕ) → 3 * suc i + 1 ≡ suc (suc (suc (3 * i + 1)))
second i = omega arith

third : (i : ℕ) → 3 * suc i + 2 ≡ suc (suc (suc (3 * i + 2)))
third i = omega arith

-- the first records zeroed
pub zeroed_in : (k : ℕ) (ns : List ℕ) → k ≤ length (records_in ns) → records_in (replicate (3 * k) 0 ++ drop (3 * k) ns) ≡ replicate k nothing_counted ++ drop k (records_in ns)
unfolding records_in
zeroed_in zero ns l = refl
zeroed_in (suc k) [] l = absurd (not-suc-le-zero l)
zeroed_in (suc k) (g ∷ []) l = absurd (not-suc-le-zero l)
zeroed_in (suc k) (g ∷ s ∷ []) l = absurd (not-suc-le-zero l)
zeroed_in (suc k) (g ∷ s ∷ r ∷ ns) l = rw (next k) (ap (λ (ts : List Tally). nothing_counted ∷ ts) (zeroed_in k ns (le_of_suc-le-suc l)))

-- all of them
pub all_zeroed : (k : ℕ) (ns : List ℕ) → length (records_in ns) ≡ k → records_in (replicate (3 * k) 0 ++ drop (3 * k) ns) ≡ replicate k nothing_counted
all_zeroed k ns e =
    zeroed_in k ns (omega arith)
    ∙ ap (λ (rest : List Tally). replicate k nothing_counted ++ rest) (drop_of_length-le (records_in ns) (omega arith))
    ∙ append-nil (replicate k nothing_counted)

-- and what is left over is kept
pub zeroed_over : (k : ℕ) (ns : List ℕ) → k ≤ length (records_in ns) → left_over (replicate (3 * k) 0 ++ drop (3 * k) ns) ≡ left_over ns
unfolding records_in left_over
zeroed_over zero ns l = refl
zeroed_over (suc k) [] l = absurd (not-suc-le-zero l)
zeroed_over (suc k) (g ∷ []) l = absurd (not-suc-le-zero l)
zeroed_over (suc k) (g ∷ s ∷ []) l = absurd (not-suc-le-zero l)
zeroed_over (suc k) (g ∷ s ∷ r ∷ ns) l = rw (next k) (zeroed_over k ns (le_of_suc-le-suc l))

-- the record at i
abbrev pub record_at : List ℕ → ℕ → Tally
record_at ns i = record { granted = get_or ns (3 * i) 0; slipped = get_or ns (3 * i + 1) 0; refused = get_or ns (3 * i + 2) 0 }

pub record_read : (ns : List ℕ) (i : ℕ) → i < length (records_in ns) → get_or (records_in ns) i nothing_counted ≡ record_at ns i
unfolding records_in
record_read [] i l = absurd (not-suc-le-zero l)
record_read (g ∷ []) i l = absurd (not-suc-le-zero l)
record_read (g ∷ s ∷ []) i l = absurd (not-suc-le-zero l)
record_read (g ∷ s ∷ r ∷ ns) zero l = refl
record_read (g ∷ s ∷ r ∷ ns) (suc i) l = rw (third i, second i, next i) (record_read ns i (le_of_suc-le-suc l))

-- stores of its three numbers
pub record_written : (ns : List ℕ) (i : ℕ) (t : Tally) → i < length (records_in ns) → records_in (set (set (set ns (3 * i) t.granted) (3 * i + 1) t.slipped) (3 * i + 2) t.refused) ≡ set (records_in ns) i t
unfolding records_in
record_written [] i t l = absurd (not-suc-le-zero l)
record_written (g ∷ []) i t l = absurd (not-suc-le-zero l)
record_written (g ∷ s ∷ []) i t l = absurd (not-suc-le-zero l)
record_written (g ∷ s ∷ r ∷ ns) zero t l = refl
record_written (g ∷ s ∷ r ∷ ns) (suc i) t l =
    rw (third i, second i, next i) (ap (λ (ts : List Tally). record { granted = g; slipped = s; refused = r } ∷ ts) (record_written ns i t (le_of_suc-le-suc l)))

-- what is stored is what was read, raised
pub raised_in : (ns : List ℕ) (i v : ℕ) (t : Tally) → i < length (records_in ns) → t ≡ raised (record_at ns i) v → records_in (set (set (set ns (3 * i) t.granted) (3 * i + 1) t.slipped) (3 * i + 2) t.refused) ≡ raised_at i v (records_in ns)
unfolding raised_at
raised_in ns i v t l e =
    record_written ns i t l ∙ ap (λ (a : Tally). set (records_in ns) i a) (e ∙ ap (λ (a : Tally). raised a v) (sym (record_read ns i l)))

-- and what is left over is kept
pub written_over : (ns : List ℕ) (i : ℕ) (t : Tally) → i < length (records_in ns) → left_over (set (set (set ns (3 * i) t.granted) (3 * i + 1) t.slipped) (3 * i + 2) t.refused) ≡ left_over ns
unfolding records_in left_over
written_over [] i t l = absurd (not-suc-le-zero l)
written_over (g ∷ []) i t l = absurd (not-suc-le-zero l)
written_over (g ∷ s ∷ []) i t l = absurd (not-suc-le-zero l)
written_over (g ∷ s ∷ r ∷ ns) zero t l = refl
written_over (g ∷ s ∷ r ∷ ns) (suc i) t l = rw (third i, second i, next i) (written_over ns i t (le_of_suc-le-suc l))

-- ---- where a list is counted, and where one of its records is raised

pub ruleset counts = (records_count, length-set, raised_in, written_over)
