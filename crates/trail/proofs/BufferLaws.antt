-- Laws of the program's buffers: what a line, a byte and a piece leave there.
-- Assumes nothing.
use Rattle.std.specs.Prelude.{◌≡◌, refl, List, [], ◌∷◌, ◌++◌, ℕ, suc, ◌+◌, ◌≤◌, ◌<◌, eqb, length, take, drop, get_or}
use Rattle.std.proofs.Common.{sym, ap, ◌∙◌, inl, inr, arith, add-one, append_assoc, append-nil, take-suc, take_all, drop-drop, length-take, length-drop}
use Rattle.bits.specs.AllLaws.{either}
use Rattle.model.specs.declared.Report.{Report}
use Rattle.model.specs.Monitor.{report}
use Rattle.script.specs.Print.{line_feed, until, reply_line, held, Printed}
use Rattle.script.specs.declared.text.Text.{Text}
use Rattle.script.specs.PrintLaws.{take_more, reply_short, printed_whole}
use Rattle.trail.specs.Lines.{LineOutcome, line_done}
use Rattle.trail.specs.Marked.{marked_line}
use Rattle.trail.proofs.MarkedLaws.{marked_short}
use Rattle.trail.specs.Script.{Progress, nothing_read, after_line, with_marked}
use Rattle.trail.specs.Feeding.{line_size, Reading, nothing_fed, ended, after_byte, after_piece, last_line, closed, finished, emptied}
use Rattle.trail.proofs.FeedingLaws.{pieces_joined, piece_emptied, finished_memory, finished_tallies}
use Rattle.trail.specs.Buffers.{answer_size, marked_size, SomeInput, SomeScript}

-- ---- what is printed stands behind what was there

-- the answer to a line stands behind what was printed
pub line_answered : (p : Progress) (l : List ℕ) {d : LineOutcome} {n : ℕ} {out out' : Text n}
    → d ≡ line_done p.memory p.tallies p.order l → held out ≡ p.printed → Printed out (reply_line d.reply) out' → length (held out) + answer_size ≤ n
    → ◌≡◌ {A = Progress} (record { printed = held out'; order = d.order; memory = d.memory; tallies = d.tallies }) (after_line l p)
unfolding after_line
line_answered p l {d = d} h q t room = rw (← h, ← q, printed_whole t (omega (arith, reply_short d.reply)))

-- ---- the end of the input

pub no_last : (l : List ℕ) (p : Progress) → length l ≡ 0 → p ≡ last_line l p
unfolding last_line
no_last [] p h = refl
no_last (b ∷ l) p h = absurd (omega arith)

pub some_last : (l : List ℕ) (p : Progress) → (length l ≡ 0 → ⊥) → after_line l p ≡ last_line l p
unfolding last_line
some_last [] p h = absurd (h refl)
some_last (b ∷ l) p h = refl

-- the last line left this, and the marked numbers are printed behind it
pub all_told : (r : Reading) {p : Progress} {n : ℕ} {out out' : Text n} {m : Report}
    → p ≡ closed r → held out ≡ p.printed → m ≡ report p.order p.memory → Printed out (marked_line m) out' → length (held out) + marked_size ≤ n
    → ◌≡◌ {A = Progress} (record { printed = held out'; order = p.order; memory = p.memory; tallies = p.tallies }) (finished r)
unfolding finished with_marked
all_told r {m = m} h q k d room = let s = marked_short m in rw (← h, ← q, ← k, printed_whole d (omega arith))

-- ---- a byte

pub piece_more : (piece : List ℕ) (i : ℕ) (r : Reading) → i < length piece → after_piece (take (i + 1) piece) r ≡ after_byte (get_or piece i 0) (after_piece (take i piece) r)
piece_more piece i r h = rw (add-one, take-suc piece i 0 h) (pieces_joined (take i piece) (get_or piece i 0 ∷ []) r ∙ (unfold after_piece in refl))

-- ---- a line that a piece goes on with

-- its bytes up to a line feed are kept as far as there is room
pub line_kept : (s : List ℕ) (r : Reading) → length r.line ≤ line_size
    → after_piece s r ≡ after_piece (drop (length (until line_feed s)) s) (record { line = take line_size (r.line ++ until line_feed s); progress = r.progress })
unfolding until after_piece after_byte
line_kept [] r h = rw (append-nil, take_all line_size r.line h)
line_kept (b ∷ s) r h =
    let t = take line_size (r.line ++ b ∷ []) in
    elim (either (eqb b line_feed)) [
      | inl e ↦ rw (e, append-nil, take_all line_size r.line h, e)
      | inr e ↦
          rw (e, line_kept s (record { line = t; progress = r.progress }) (omega (arith, length-take line_size (r.line ++ b ∷ []))))
          rw (take_more line_size (r.line ++ b ∷ []) (until line_feed s), append_assoc)
    ]

-- and the line feed ends it
pub line_ended : (s : List ℕ) (r : Reading) → length (until line_feed s) < length s
    → after_piece (drop (length (until line_feed s)) s) r ≡ after_piece (drop (suc (length (until line_feed s))) s) (ended r)
unfolding until after_piece after_byte
line_ended [] r h = absurd (omega arith)
line_ended (b ∷ s) r h =
    elim (either (eqb b line_feed)) [
      | inl e ↦ rw (e, e)
      | inr e ↦ rw e (line_ended s r (omega (arith, rw e at h)))
    ]

-- of a piece that stands at i
pub kept_on : (s : List ℕ) (i n : ℕ) (r : Reading) {l : List ℕ} → length r.line ≤ line_size → n ≡ length (until line_feed (drop i s)) → l ≡ take line_size (r.line ++ until line_feed (drop i s))
    → after_piece (drop (i + n) s) (record { line = l; progress = r.progress }) ≡ after_piece (drop i s) r
kept_on s i n r h e k = rw (k, e, ← drop-drop (length (until line_feed (drop i s))) i s) (sym (line_kept (drop i s) r h))

pub ended_on : (s : List ℕ) (i n : ℕ) (r : Reading) → n ≡ length (until line_feed (drop i s)) → i + n < length s
    → after_piece (drop (i + n + 1) s) (ended r) ≡ after_piece (drop (i + n) s) r
ended_on s i n r e h =
    let u = length (until line_feed (drop i s)) in
    let m : i + n + 1 ≡ i + suc u = omega arith in
    rw (m, e, ← drop-drop (suc u) i s, ← drop-drop u i s) (sym (line_ended (drop i s) r (omega (arith, length-drop i s))))

-- ---- pieces

pub no_piece : (r : Reading) → r.progress.printed ≡ [] → r ≡ emptied (after_piece [] r)
unfolding after_piece emptied
no_piece r h = ap (λ (t : List ℕ). record { line = r.line; progress = record { printed = t; order = r.progress.order; memory = r.progress.memory; tallies = r.progress.tallies } }) h

pub no_input : {r : Reading} → r ≡ nothing_fed → SomeInput r
unfolding after_piece emptied nothing_fed nothing_read
no_input e = record { input = []; leaves = e }

-- then nothing is held
pub some_written : {r : Reading} → SomeInput r → r.progress.printed ≡ []
unfolding emptied
some_written i = ap (λ (r : Reading). r.progress.printed) i.leaves

pub input_more : {r q : Reading} (c : List ℕ) → SomeInput r → q ≡ emptied (after_piece c r) → SomeInput q
input_more {r} c s e =
    record {
      input = s.input ++ c;
      leaves = e ∙ rw (s.leaves, pieces_joined s.input c nothing_fed) (piece_emptied c (after_piece s.input nothing_fed));
    }

pub some_script : {r : Reading} {p : Progress} → SomeInput r → p ≡ finished r → SomeScript p
some_script s h =
    record {
      input = s.input;
      ends = ap (λ (p : Progress). p.memory) h ∙ rw s.leaves (finished_memory s.input);
      counted = ap (λ (p : Progress). p.tallies) h ∙ rw s.leaves (finished_tallies s.input);
      left = ap (λ (p : Progress). p.printed) h ∙ rw s.leaves;
    }
