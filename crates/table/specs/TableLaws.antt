-- Laws of the table: an entry is found by its setting and says its decision.
-- Assumes nothing.
use Rattle.std.specs.Prelude.{◌≡◌, refl, Bool, true, false, not, [], ℕ, suc, ◌+◌, ◌*◌, ◌/◌, ◌%◌, ◌^◌, ◌<◌, T, eqb, get_or}
use Rattle.std.proofs.Common.{ap, ap₂, ◌∙◌, arith, eqb-true}
use Rattle.bits.specs.All.{one, all_b, any_b}
use Rattle.bits.specs.AllLaws.{and_l, and_r, all_at}
use Rattle.bits.specs.Bit.{bit}
use Rattle.bits.specs.BitLaws.{bit_low, bit_half}
use Rattle.model.specs.Events.{unless}
use Rattle.decisions.specs.Decisions.{Decision}
use Rattle.decisions.specs.Decisions.{settled, read_decision, write_decision, move_decision, delete_decision, call_decision, invoke_decision, relay_decision}
use Rattle.table.specs.Table.{settings, setting, ruled, decided, entry_at, entry_of, decision_of, facts_of, Entries, operations, operation_at, entry_in, right, filled}
use Rattle.table.specs.declared.Operation.{Operation}
use Rattle.table.specs.declared.Operation.TheVariants.{Read, Write, Move, Delete, Call, Invoke, Pass, Post}

-- ---- a setting's facts

low : (a : Bool) (n : ℕ) → bit (one a + 2 * n) 0 ≡ a
low true n = let d : (1 + 2 * n) % 2 ≡ 1 = omega arith in bit_low _ ∙ rw d
low false n = let d : (0 + 2 * n) % 2 ≡ 0 = omega arith in bit_low _ ∙ rw d

half : (a : Bool) (n : ℕ) → (one a + 2 * n) / 2 ≡ n
half true n = omega arith
half false n = omega arith

next : (a : Bool) (n i : ℕ) → bit (one a + 2 * n) (suc i) ≡ bit n i
next a n i = bit_half _ i ∙ ap (λ (w : ℕ). bit w i) (half a n)

last : (a : Bool) → bit (one a) 0 ≡ a
unfolding bit
last true = refl
last false = refl

entry_of_law : (op : Operation) (f0 f1 f2 f3 f4 f5 : Bool) → entry_at op (setting f0 f1 f2 f3 f4 f5) ≡ entry_of (decided op f0 f1 f2 f3 f4 f5)
entry_of_law op f0 f1 f2 f3 f4 f5 =
    let s = setting f0 f1 f2 f3 f4 f5 in
    let p : bit s 0 ≡ f0 = low f0 _ in
    let q : bit s 1 ≡ f1 = next f0 _ 0 ∙ low f1 _ in
    let r : bit s 2 ≡ f2 = next f0 _ 1 ∙ next f1 _ 0 ∙ low f2 _ in
    let t : bit s 3 ≡ f3 = next f0 _ 2 ∙ next f1 _ 1 ∙ next f2 _ 0 ∙ low f3 _ in
    let u : bit s 4 ≡ f4 = next f0 _ 3 ∙ next f1 _ 2 ∙ next f2 _ 1 ∙ next f3 _ 0 ∙ low f4 _ in
    let v : bit s 5 ≡ f5 = next f0 _ 4 ∙ next f1 _ 3 ∙ next f2 _ 2 ∙ next f3 _ 1 ∙ next f4 _ 0 ∙ last f5 in
    λ i. entry_of (decided op (p i) (q i) (r i) (t i) (u i) (v i))

-- ---- what an entry says

-- past a verdict below 16 come the two flows
flows : (v : ℕ) (f s : Bool) → v < 16 → (v + 16 * one f + 32 * one s) / 16 ≡ one f + 2 * one s
flows v true true h = omega arith
flows v true false h = omega arith
flows v false true h = omega arith
flows v false false h = omega arith

first_flow : (f s : Bool) → eqb ((one f + 2 * one s) % 2) 1 ≡ f
first_flow true true = refl
first_flow true false = refl
first_flow false true = refl
first_flow false false = refl

second_flow : (f s : Bool) → eqb ((one f + 2 * one s) / 2 % 2) 1 ≡ s
second_flow true true = refl
second_flow true false = refl
second_flow false true = refl
second_flow false false = refl

told_apart : (d : Decision) → d.verdict < 16 → decision_of (entry_of d) ≡ d
unfolding bit
told_apart d h =
    let q = flows d.verdict d.first d.second h in
    let v : entry_of d % 16 ≡ d.verdict = omega arith in
    let f : eqb (entry_of d / 16 % 2) 1 ≡ d.first = rw q (first_flow d.first d.second) in
    let t : entry_of d / 32 ≡ entry_of d / 16 / 2 = omega arith in
    let s : eqb (entry_of d / 32 % 2) 1 ≡ d.second = rw (t, q) (second_flow d.first d.second) in
    λ i. record { verdict = v i; first = f i; second = s i }

low_verdict : (ok : Bool) {n v : ℕ} → n < 16 → v < 16 → unless ok n v < 16
unfolding unless
low_verdict true p q = q
low_verdict false p q = p

pub verdicts : (op : Operation) (f0 f1 f2 f3 f4 f5 : Bool) → (ruled op f0 f1 f2 f3 f4 f5).verdict < 16
unfolding read_decision write_decision move_decision delete_decision call_decision invoke_decision relay_decision
verdicts Read f0 f1 f2 f3 f4 f5 = low_verdict _ (omega arith) (low_verdict _ (omega arith) (low_verdict _ (omega arith) (omega arith)))
verdicts Write f0 f1 f2 f3 f4 f5 = low_verdict _ (omega arith) (low_verdict _ (omega arith) (omega arith))
verdicts Move f0 f1 f2 f3 f4 f5 = low_verdict _ (omega arith) (low_verdict _ (omega arith) (low_verdict _ (omega arith) (omega arith)))
verdicts Delete f0 f1 f2 f3 f4 f5 = low_verdict _ (omega arith) (omega arith)
verdicts Call f0 f1 f2 f3 f4 f5 = low_verdict _ (omega arith) (omega arith)
verdicts Invoke f0 f1 f2 f3 f4 f5 = low_verdict _ (omega arith) (omega arith)
verdicts Pass f0 f1 f2 f3 f4 f5 = low_verdict _ (omega arith) (omega arith)
verdicts Post f0 f1 f2 f3 f4 f5 = low_verdict _ (omega arith) (omega arith)

says : (op : Operation) (f0 f1 f2 f3 f4 f5 : Bool) → decision_of (entry_of (decided op f0 f1 f2 f3 f4 f5)) ≡ decided op f0 f1 f2 f3 f4 f5
unfolding settled
says op f0 f1 f2 f3 f4 f5 = told_apart _ (verdicts op f0 f1 f2 f3 f4 f5)

-- ---- the fact about the table, and from it to each entry

-- a test that is computed: where it fails there is no `tt`
pub tested : (b : Bool) → T b → b ≡ true
tested true t = refl
tested false t = absurd t

module _ (table : Entries) (all : filled table ≡ true) {k : ℕ} (h : k < operations) {s : ℕ} (i : s < settings) where
  each : right table k s ≡ true
  unfolding filled
  each = all_at settings (right table k) (all_at operations (λ n. all_b settings (right table n)) all k h) s i

  -- what stands for a setting is what has to
  pub stands : entry_in table k s ≡ entry_at (operation_at k) s
  stands = eqb-true _ _ (and_l _ _ each)

  -- unused facts make no difference
  pub unused : entry_in table k s ≡ entry_in table k (s % 2 ^ facts_of (operation_at k))
  unused = eqb-true _ _ (and_r (eqb (entry_in table k s) (entry_at (operation_at k) s)) _ each)

-- the law of the lookup: in a table that is filled, the entry of an operation and a setting says the plain decision on the facts
pub looked_up : (table : Entries) → filled table ≡ true → (op : Operation) {k : ℕ} → (operation_at k ≡ op) × (k < operations)
    → (f0 f1 f2 f3 f4 f5 : Bool) {s : ℕ} → (s ≡ setting f0 f1 f2 f3 f4 f5) × (s < settings) → decision_of (entry_in table k s) ≡ decided op f0 f1 f2 f3 f4 f5
looked_up table all op (o, h) f0 f1 f2 f3 f4 f5 (e, i) =
    ap decision_of (stands table all h i ∙ ap₂ entry_at o e ∙ entry_of_law op f0 f1 f2 f3 f4 f5) ∙ says op f0 f1 f2 f3 f4 f5

one_small : (b : Bool) → one b < 2
one_small true = omega arith
one_small false = omega arith

-- the same for at most three facts: their entries stand in the first row
pub looked_up_few : (table : Entries) → filled table ≡ true → (op : Operation) {k : ℕ} → (operation_at k ≡ op) × (k < operations)
    → (f0 f1 f2 : Bool) → decision_of (get_or (get_or (get_or table k []) 0 []) (one f0 + 2 * (one f1 + 2 * one f2)) 0) ≡ decided op f0 f1 f2 false false false
looked_up_few table all op {k} at f0 f1 f2 =
    let s = setting f0 f1 f2 false false false in
    let row : s / 8 ≡ 0 = omega (arith, one_small f0, one_small f1, one_small f2) in
    let column : one f0 + 2 * (one f1 + 2 * one f2) ≡ s % 8 = omega (arith, one_small f0, one_small f1, one_small f2) in
    let h : s < settings = omega (arith, one_small f0, one_small f1, one_small f2) in
    let e : get_or (get_or (get_or table k []) 0 []) (one f0 + 2 * (one f1 + 2 * one f2)) 0 ≡ entry_in table k s = rw (column, row) in
    ap decision_of e ∙ looked_up table all op at f0 f1 f2 false false false (refl, h)

-- each fact that an operation has makes a difference somewhere: some entry is not that of its setting without the fact
pub used : (op : Operation) → all_b (facts_of op) (λ i. any_b settings (λ s. not (eqb (entry_at op s) (entry_at op (s % 2 ^ i + 2 ^ suc i * (s / 2 ^ suc i)))))) ≡ true
unfolding all_b any_b bit unless settled facts_of read_decision write_decision move_decision delete_decision call_decision invoke_decision relay_decision
used Read = refl
used Write = refl
used Move = refl
used Delete = refl
used Call = refl
used Invoke = refl
used Pass = refl
used Post = refl
