-- The told word of document 02: what the driver hears of a call, and the memories that it must not tell apart.
-- Assumes nothing.
use Rattle.std.specs.Prelude.{◌≡◌, cond, ℕ, ◌<◌, eqb}
use Rattle.rows.specs.Size.{Size, numbers_of}
use Rattle.records.specs.Records.{record_size, field}
use Rattle.model.specs.Verdicts.{granted}
use Rattle.model.specs.State.{MemoryOf}
use Rattle.model.specs.declared.Told.{Told}
use Rattle.model.specs.declared.Told.TheVariants.{Nothing, Yes, No}
use Rattle.model.specs.declared.Call.{Call}
use Rattle.model.specs.declared.Call.TheVariants.{Start, Read, Write, Execute, Create, CreateRoot, Move, Delete, CallTask, Invoke, Pass, Post, Find, Mark, Step, Spread}

-- ---- the word, as an answer carries it

abbrev pub no_word : ℕ
no_word = 0

abbrev pub told_yes : ℕ
told_yes = 1

abbrev pub told_no : ℕ
told_no = 2

-- the word of what the code tells
abbrev pub word_of : Told → ℕ
word_of Nothing = no_word
word_of Yes = told_yes
word_of No = told_no

-- "yes for verdict 0, no for all others": a slip is no
unfoldable pub yes_or_no : ℕ → ℕ
yes_or_no v = cond (eqb v granted) told_yes told_no

-- the word of a call that came to the verdict v: "read, write, move, both creates, execute, call and invoke" have one. "Deletion is exempt", and no other call has one, nor a load
unfoldable pub told : Call → ℕ → ℕ
told Start v = no_word
told (Read e d x) v = yes_or_no v
told (Write e d x) v = yes_or_no v
told (Execute c i n l r) v = yes_or_no v
told (Create c d n k l) v = yes_or_no v
told (CreateRoot c d n l) v = yes_or_no v
told (Move e d x f t) v = yes_or_no v
told (Delete e d x k) v = no_word
told (CallTask a b) v = yes_or_no v
told (Invoke a b) v = yes_or_no v
told (Pass z x y) v = no_word
told (Post x z y) v = no_word
told (Find x z y) v = no_word
told (Mark e) v = no_word
told (Step x) v = no_word
told Spread v = no_word

-- ---- "the same things, levels, accesses and flows that differ only in marks"

pub record SameButMarks {size : Size} (m n : MemoryOf size) : Type 0 where
  -- the bytes are equal but for the marks byte of each record, byte 5
  pub same_bytes : (x f : ℕ) → x < numbers_of size → f < record_size → (f ≡ 5 → ⊥) → field m.bytes x f ≡ field n.bytes x f
  -- flows and accesses are equal
  pub same_words : m.words ≡ n.words
