-- Laws of an input in pieces: all that is written is the script's output.
-- Assumes nothing.
use Rattle.std.specs.Prelude.{◌≡◌, true, false, List, [], ◌∷◌, ◌++◌, ℕ, eqb, length, take, drop}
use Rattle.std.proofs.Math.Path.{refl}
use Rattle.std.proofs.Common.{sym, ap, ◌∙◌, inl, append_assoc, append-nil, arith, take-append-drop, take_all, length-take-le}
use Rattle.std.proofs.Math.Logic.{inr}
use Rattle.std.proofs.Math.Decide.{dec_le}
use Rattle.std.proofs.Math.Seq.{append_snoc}
use Rattle.bits.specs.AllLaws.{either}
use Rattle.script.specs.Script.{into, read_line}
use Rattle.script.specs.ScriptLaws.{long_lines}
use Rattle.script.specs.PrintLaws.{take_more}
use Rattle.trail.specs.Lines.{line_done}
use Rattle.script.specs.Print.{line_feed}
use Rattle.trail.specs.Script.{lines, Progress, nothing_read, after_line, after_lines, with_marked, at_end, output}
use Rattle.trail.specs.Feeding.{line_size, Reading, nothing_fed, after_byte, after_piece, last_line, closed, finished, emptied, written}
use Rattle.trail.specs.Claims.{joined, PiecesJoined}

pub pieces_joined : PiecesJoined
unfolding after_piece
pieces_joined [] d f = refl
pieces_joined (b ∷ c) d f = pieces_joined c d (after_byte b f)

-- ---- what was printed before changes nothing of what comes after

ahead : List ℕ → Progress → Progress
ahead t p = record { printed = t ++ p.printed; order = p.order; memory = p.memory; tallies = p.tallies }

reading_ahead : List ℕ → Reading → Reading
reading_ahead t f = record { line = f.line; progress = ahead t f.progress }

line_ahead : (t l : List ℕ) (p : Progress) → after_line l (ahead t p) ≡ ahead t (after_line l p)
unfolding ahead after_line
line_ahead t l p = rw append_assoc

byte_ahead : (t : List ℕ) (b : ℕ) (f : Reading) → after_byte b (reading_ahead t f) ≡ reading_ahead t (after_byte b f)
unfolding reading_ahead after_byte
byte_ahead t b f = elim (either (eqb b line_feed)) [ inl h ↦ rw (h, line_ahead) | inr h ↦ rw h ]

piece_ahead : (t c : List ℕ) (f : Reading) → after_piece c (reading_ahead t f) ≡ reading_ahead t (after_piece c f)
unfolding after_piece
piece_ahead t [] f = refl
piece_ahead t (b ∷ c) f = rw (byte_ahead t b f) (piece_ahead t c (after_byte b f))

last_ahead : (t l : List ℕ) (p : Progress) → last_line l (ahead t p) ≡ ahead t (last_line l p)
unfolding last_line
last_ahead t [] p = refl
last_ahead t (b ∷ l) p = line_ahead t (b ∷ l) p

closed_ahead : (t : List ℕ) (r : Reading) → closed (reading_ahead t r) ≡ ahead t (closed r)
unfolding closed reading_ahead
closed_ahead t r = last_ahead t r.line r.progress

end_ahead : (t : List ℕ) (r : Reading) → (finished (reading_ahead t r)).printed ≡ t ++ (finished r).printed
unfolding finished with_marked
end_ahead t r = rw closed_ahead (unfold ahead in rw append_assoc)

is_ahead : (f : Reading) → reading_ahead f.progress.printed (emptied f) ≡ f
unfolding reading_ahead ahead emptied
is_ahead f = rw append-nil

-- what is written before a piece comes changes nothing of what the piece leaves
pub piece_emptied : (c : List ℕ) (f : Reading) → emptied (after_piece c (emptied f)) ≡ emptied (after_piece c f)
piece_emptied c f =
    let e : after_piece c f ≡ reading_ahead f.progress.printed (after_piece c (emptied f)) = ap (after_piece c) (sym (is_ahead f)) ∙ piece_ahead f.progress.printed c (emptied f) in
    rw e (unfold emptied reading_ahead ahead in refl)

pub written_is : (cs : List (List ℕ)) (f : Reading) → written cs f ≡ (finished (after_piece (joined cs) f)).printed
unfolding written
written_is [] f = unfold after_piece in refl
written_is (c ∷ cs) f =
    let g = after_piece c f in
    rw (written_is cs (emptied g), pieces_joined c (joined cs) f)
    (sym (end_ahead g.progress.printed (after_piece (joined cs) (emptied g))) ∙ rw (← piece_ahead g.progress.printed (joined cs) (emptied g), is_ahead g))

-- ---- the first bytes of a line settle what it means

kept_line : (l : List ℕ) → read_line (take line_size l) ≡ read_line l
kept_line l =
    elim (dec_le (length l) line_size) [
      | yes h ↦ rw (take_all line_size l h)
      | no h ↦ sym (long_lines (take line_size l) (drop line_size l) (omega (arith, length-take-le line_size l (omega arith)))) ∙ ap read_line (take-append-drop line_size l)
    ]

after_kept : (l : List ℕ) (p : Progress) → after_line (take line_size l) p ≡ after_line l p
unfolding after_line line_done
after_kept l p = rw (kept_line l)

-- ---- lines of which the first is open

onto : List ℕ → List (List ℕ) → List (List ℕ)
onto [] ls = ls
onto (a ∷ w) [] = (a ∷ w) ∷ []
onto (a ∷ w) (l ∷ ls) = (a ∷ w ++ l) ∷ ls

onto_end : (w : List ℕ) (ls : List (List ℕ)) → onto w ([] ∷ ls) ≡ w ∷ ls
unfolding onto
onto_end [] ls = refl
onto_end (a ∷ w) ls = rw append-nil

onto_into : (w : List ℕ) (b : ℕ) (ls : List (List ℕ)) → onto w (into b ls) ≡ onto (w ++ b ∷ []) ls
unfolding onto into
onto_into [] b [] = refl
onto_into [] b (l ∷ ls) = refl
onto_into (a ∷ w) b [] = refl
onto_into (a ∷ w) b (l ∷ ls) = rw (append_snoc w b l)

-- ---- the bytes one by one, and the lines

-- of w, which is open, the first bytes are kept
opened : List ℕ → Progress → Reading
opened w p = record { line = take line_size w; progress = p }

byte_ends : (b : ℕ) (w : List ℕ) (p : Progress) → eqb b line_feed ≡ true → after_byte b (opened w p) ≡ opened [] (after_line w p)
unfolding after_byte opened
byte_ends b w p h = rw (h, after_kept w p)

byte_goes_on : (b : ℕ) (w : List ℕ) (p : Progress) → eqb b line_feed ≡ false → after_byte b (opened w p) ≡ opened (w ++ b ∷ []) p
unfolding after_byte opened
byte_goes_on b w p h = rw (h, take_more line_size w (b ∷ []))

piece_lines : (bs w : List ℕ) (p : Progress) → closed (after_piece bs (opened w p)) ≡ after_lines (onto w (lines bs)) p
unfolding after_piece lines after_lines
piece_lines [] [] p = unfold closed last_line onto opened in refl
piece_lines [] (a ∷ w) p = unfold closed last_line onto opened in after_kept (a ∷ w) p
piece_lines (b ∷ bs) w p =
    elim (either (eqb b line_feed)) [
      | inl h ↦ rw (byte_ends b w p h, h, onto_end w (lines bs)) (piece_lines bs [] (after_line w p) ∙ (unfold onto in refl))
      | inr h ↦ rw (byte_goes_on b w p h, h, onto_into w b (lines bs)) (piece_lines bs (w ++ b ∷ []) p)
    ]

pub closed_whole : (input : List ℕ) → closed (after_piece input nothing_fed) ≡ at_end input
unfolding at_end nothing_fed opened onto
closed_whole input = piece_lines input [] nothing_read

pub whole : (input : List ℕ) → (finished (after_piece input nothing_fed)).printed ≡ output input
unfolding finished output
whole input = ap with_marked (closed_whole input)

-- and it ends with the script's memory and tallies, whatever was written before
end_emptied : (input : List ℕ) → ahead (after_piece input nothing_fed).progress.printed (closed (emptied (after_piece input nothing_fed))) ≡ at_end input
end_emptied input =
    let r = after_piece input nothing_fed in
    sym (ap closed (sym (is_ahead r)) ∙ closed_ahead r.progress.printed (emptied r)) ∙ closed_whole input

pub finished_memory : (input : List ℕ) → (finished (emptied (after_piece input nothing_fed))).memory ≡ (at_end input).memory
unfolding finished ahead
finished_memory input = ap (λ (p : Progress). p.memory) (end_emptied input)

pub finished_tallies : (input : List ℕ) → (finished (emptied (after_piece input nothing_fed))).tallies ≡ (at_end input).tallies
unfolding finished ahead
finished_tallies input = ap (λ (p : Progress). p.tallies) (end_emptied input)
