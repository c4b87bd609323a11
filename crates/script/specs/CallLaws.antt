-- Laws of the call that a word is with its numbers.
-- Assumes nothing.
use Rattle.std.specs.Prelude.{◌≡◌, refl, true, false, Option, List, [], ◌∷◌, ℕ, zero, suc, ◌+◌, ◌≤◌, ◌<◌, eqb, length, get_or, take, drop}
use Rattle.std.proofs.Common.{sym, ap, ◌∙◌, arith, take_all, drop-cons, ne_eqb}
use Rattle.script.specs.Script.{bad, asks, call_of, counted, same_word, read_word, write_word, run_word, root_word, create_word, move_word, delete_word, call_word, invoke_word, pass_word, post_word, find_word, mark_word, step_word, spread_word}
use Rattle.script.specs.PiecesLaws.{cond_both, same_eq, same_length}
use Rattle.script.specs.declared.Command.{Command}
use Rattle.model.specs.declared.Call.TheVariants.{Read, Write, Execute, Create, CreateRoot, Move, Delete, CallTask, Invoke, Pass, Post, Find, Mark, Step, Spread}

-- each word with as many numbers as it wants
pub record Words (a b c d e : ℕ) : Type 0 where
  pub read : call_of read_word (a ∷ b ∷ c ∷ []) ≡ asks (Read a b c)
  pub write : call_of write_word (a ∷ b ∷ c ∷ []) ≡ asks (Write a b c)
  pub run : call_of run_word (a ∷ b ∷ c ∷ d ∷ e ∷ []) ≡ asks (Execute a b c d e)
  pub create : call_of create_word (a ∷ b ∷ c ∷ d ∷ e ∷ []) ≡ asks (Create a b c d e)
  pub root : call_of root_word (a ∷ b ∷ c ∷ d ∷ []) ≡ asks (CreateRoot a b c d)
  pub move : call_of move_word (a ∷ b ∷ c ∷ d ∷ e ∷ []) ≡ asks (Move a b c d e)
  pub delete : call_of delete_word (a ∷ b ∷ c ∷ d ∷ []) ≡ asks (Delete a b c d)
  pub call : call_of call_word (a ∷ b ∷ []) ≡ asks (CallTask a b)
  pub invoke : call_of invoke_word (a ∷ b ∷ []) ≡ asks (Invoke a b)
  pub pass : call_of pass_word (a ∷ b ∷ c ∷ []) ≡ asks (Pass a b c)
  pub post : call_of post_word (a ∷ b ∷ c ∷ []) ≡ asks (Post a b c)
  pub find : call_of find_word (a ∷ b ∷ c ∷ []) ≡ asks (Find a b c)
  pub mark : call_of mark_word (a ∷ []) ≡ asks (Mark a)
  pub step : call_of step_word (a ∷ []) ≡ asks (Step a)
  pub spread : call_of spread_word [] ≡ asks Spread

pub words : (a b c d e : ℕ) → Words a b c d e
unfolding call_of counted same_word read_word write_word run_word root_word create_word move_word delete_word call_word invoke_word pass_word post_word find_word mark_word step_word spread_word
words a b c d e = record {
  read = refl;
  write = refl;
  run = refl;
  create = refl;
  root = refl;
  move = refl;
  delete = refl;
  call = refl;
  invoke = refl;
  pass = refl;
  post = refl;
  find = refl;
  mark = refl;
  step = refl;
  spread = refl;
}

-- k numbers from the i-th on
abbrev pub picked : ℕ → ℕ → List ℕ → List ℕ
picked zero i ns = []
picked (suc k) i ns = get_or ns i 0 ∷ picked k (suc i) ns

picked_from : (k i : ℕ) (ns : List ℕ) → i + k ≤ length ns → take k (drop i ns) ≡ picked k i ns
picked_from zero i ns h = refl
picked_from (suc k) i ns h = rw (drop-cons ns i 0 (omega arith)) (ap (λ (r : List ℕ). get_or ns i 0 ∷ r) (picked_from k (suc i) ns (omega arith)))

all_picked : (k : ℕ) (ns : List ℕ) → length ns ≡ k → ns ≡ picked k 0 ns
all_picked k ns h = sym (take_all k ns (omega arith)) ∙ picked_from k 0 ns (omega arith)

module _ (k : ℕ) (w : List ℕ) where
  -- the word is x, and it has k numbers
  pub said : (x ns : List ℕ) {r : Option Command} → true ≡ same_word w x → length ns ≡ k → call_of x (picked k 0 ns) ≡ r → r ≡ call_of w ns
  said x ns e l g = sym (ap (λ (v : List ℕ). call_of v ns) (same_eq w x (sym e)) ∙ ap (call_of x) (all_picked k ns l) ∙ g)

  pub none_said : (ns : List ℕ) → length ns ≡ k → call_of w (picked k 0 ns) ≡ bad → bad ≡ call_of w ns
  none_said ns l g = sym (ap (call_of w) (all_picked k ns l) ∙ g)

-- no word wants these

pub no_none : (w : List ℕ) → same_word w spread_word ≡ false → call_of w [] ≡ bad
unfolding call_of counted
no_none w p = simp (p, cond_both)

pub no_one : (w : List ℕ) (a : ℕ) → same_word w mark_word ≡ false → same_word w step_word ≡ false → call_of w (a ∷ []) ≡ bad
unfolding call_of counted
no_one w a p q = simp (p, q, cond_both)

pub no_two : (w : List ℕ) (a b : ℕ) → same_word w call_word ≡ false → same_word w invoke_word ≡ false → call_of w (a ∷ b ∷ []) ≡ bad
unfolding call_of counted
no_two w a b p q = simp (p, q, cond_both)

pub no_three : (w : List ℕ) (a b c : ℕ) → same_word w read_word ≡ false → same_word w write_word ≡ false → same_word w pass_word ≡ false → same_word w post_word ≡ false → same_word w find_word ≡ false
    → call_of w (a ∷ b ∷ c ∷ []) ≡ bad
unfolding call_of counted
no_three w a b c p q r s t = simp (p, q, r, s, t, cond_both)

pub no_four : (w : List ℕ) (a b c d : ℕ) → same_word w root_word ≡ false → same_word w delete_word ≡ false → call_of w (a ∷ b ∷ c ∷ d ∷ []) ≡ bad
unfolding call_of counted
no_four w a b c d p q = simp (p, q, cond_both)

pub no_five : (w : List ℕ) (a b c d e : ℕ) → same_word w run_word ≡ false → same_word w create_word ≡ false → same_word w move_word ≡ false → call_of w (a ∷ b ∷ c ∷ d ∷ e ∷ []) ≡ bad
unfolding call_of counted
no_five w a b c d e p q r = simp (p, q, r, cond_both)

pub no_more : (w ns : List ℕ) → 5 < length ns → call_of w ns ≡ bad
unfolding call_of counted
no_more w ns h =
    let other : (n : ℕ) → n < 6 → eqb (length ns) n ≡ false = λ n l. ne_eqb (length ns) n (omega arith) in
    simp (other 0 (omega arith), other 1 (omega arith), other 2 (omega arith), other 3 (omega arith), other 4 (omega arith), other 5 (omega arith), cond_both)

pub long_word : (w ns : List ℕ) → 6 < length w → call_of w ns ≡ bad
unfolding call_of read_word write_word run_word root_word create_word move_word delete_word call_word invoke_word pass_word post_word find_word mark_word step_word spread_word
long_word w ns h =
    let other : (x : List ℕ) → length x < 7 → same_word w x ≡ false = λ x l. same_length w x (omega arith) in
    simp (other read_word (omega arith), other write_word (omega arith), other run_word (omega arith), other create_word (omega arith), other root_word (omega arith), other move_word (omega arith), other delete_word (omega arith), other call_word (omega arith), other invoke_word (omega arith), other pass_word (omega arith), other post_word (omega arith), other find_word (omega arith), other mark_word (omega arith), other step_word (omega arith), other spread_word (omega arith))
