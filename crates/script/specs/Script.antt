-- The script's language: what a line of bytes, without its line feed, means.
-- Assumes nothing.
use Rattle.std.specs.Prelude.{Bool, true, false, cond, ◌&&◌, Option, Some, None, List, [], ◌∷◌, ◌++◌, ℕ, ◌+◌, ◌-◌, ◌*◌, leb, eqb, length, get_or, replicate}
use Rattle.levels.specs.declared.Order.{Order}
use Rattle.levels.specs.Order.{most_levels}
use Rattle.script.specs.declared.Command.{Command}
use Rattle.script.specs.declared.Command.TheVariants.{Start, Ask}
use Rattle.model.specs.declared.Call.{Call}
use Rattle.model.specs.declared.Call.TheVariants.{Read, Write, Execute, Create, CreateRoot, Move, Delete, CallTask, Invoke, Pass, Post, Find, Mark, Step, Spread}

-- ---- what a line can be

-- all zero
abbrev pub no_order : Order
no_order = record { rows = replicate most_levels 0; count = 0; top = 0 }

-- no call
abbrev pub bad : Option Command
bad = None

abbrev pub starts : Order → Option Command
starts o = Some (Start o)

-- a start whose count is over sixteen: what follows the count is unread, and no such order passes
abbrev pub too_many : ℕ → Option Command
too_many n = starts (record { rows = replicate most_levels 0; count = n; top = 0 })

abbrev pub asks : Call → Option Command
asks c = Some (Ask c)

-- ---- pieces: one space parts them

abbrev pub space : ℕ
space = 32

-- a byte in front of the first piece
unfoldable pub into : ℕ → List (List ℕ) → List (List ℕ)
into b [] = (b ∷ []) ∷ []
into b (p ∷ ps) = (b ∷ p) ∷ ps

-- what stands between the spaces; two spaces side by side, or one at an end, leave an empty piece
unfoldable pub pieces : List ℕ → List (List ℕ)
pieces [] = [] ∷ []
pieces (b ∷ bs) = cond (eqb b space) ([] ∷ pieces bs) (into b (pieces bs))

-- ---- numbers: one to five digits, at most 65,535

unfoldable pub digits : List ℕ → Bool
digits [] = true
digits (b ∷ bs) = leb 48 b && leb b 57 && digits bs

-- the value of digits that follow the number v
unfoldable pub value_from : ℕ → List ℕ → ℕ
value_from v [] = v
value_from v (b ∷ bs) = value_from (10 * v + (b - 48)) bs

abbrev pub value : List ℕ → ℕ
value p = value_from 0 p

unfoldable pub is_number : List ℕ → Bool
is_number p = leb 1 (length p) && leb (length p) 5 && digits p && leb (value p) 65535

unfoldable pub all_numbers : List (List ℕ) → Bool
all_numbers [] = true
all_numbers (p ∷ ps) = is_number p && all_numbers ps

unfoldable pub values : List (List ℕ) → List ℕ
values [] = []
values (p ∷ ps) = value p ∷ values ps

-- ---- words

unfoldable pub same_word : List ℕ → List ℕ → Bool
same_word [] [] = true
same_word [] (b ∷ bs) = false
same_word (a ∷ xs) [] = false
same_word (a ∷ xs) (b ∷ bs) = eqb a b && same_word xs bs

-- start
unfoldable pub start_word : List ℕ
start_word = 115 ∷ 116 ∷ 97 ∷ 114 ∷ 116 ∷ []

-- read, write, run, root, create, move, delete, call, invoke, pass, post, find, mark, step, spread
unfoldable pub read_word : List ℕ
read_word = 114 ∷ 101 ∷ 97 ∷ 100 ∷ []

unfoldable pub write_word : List ℕ
write_word = 119 ∷ 114 ∷ 105 ∷ 116 ∷ 101 ∷ []

unfoldable pub run_word : List ℕ
run_word = 114 ∷ 117 ∷ 110 ∷ []

unfoldable pub root_word : List ℕ
root_word = 114 ∷ 111 ∷ 111 ∷ 116 ∷ []

unfoldable pub create_word : List ℕ
create_word = 99 ∷ 114 ∷ 101 ∷ 97 ∷ 116 ∷ 101 ∷ []

unfoldable pub move_word : List ℕ
move_word = 109 ∷ 111 ∷ 118 ∷ 101 ∷ []

unfoldable pub delete_word : List ℕ
delete_word = 100 ∷ 101 ∷ 108 ∷ 101 ∷ 116 ∷ 101 ∷ []

unfoldable pub call_word : List ℕ
call_word = 99 ∷ 97 ∷ 108 ∷ 108 ∷ []

unfoldable pub invoke_word : List ℕ
invoke_word = 105 ∷ 110 ∷ 118 ∷ 111 ∷ 107 ∷ 101 ∷ []

unfoldable pub pass_word : List ℕ
pass_word = 112 ∷ 97 ∷ 115 ∷ 115 ∷ []

unfoldable pub post_word : List ℕ
post_word = 112 ∷ 111 ∷ 115 ∷ 116 ∷ []

unfoldable pub find_word : List ℕ
find_word = 102 ∷ 105 ∷ 110 ∷ 100 ∷ []

unfoldable pub mark_word : List ℕ
mark_word = 109 ∷ 97 ∷ 114 ∷ 107 ∷ []

unfoldable pub step_word : List ℕ
step_word = 115 ∷ 116 ∷ 101 ∷ 112 ∷ []

unfoldable pub spread_word : List ℕ
spread_word = 115 ∷ 112 ∷ 114 ∷ 101 ∷ 97 ∷ 100 ∷ []

-- ---- lines

-- a call wants just so many numbers
unfoldable pub counted : ℕ → List ℕ → Call → Option Command
counted n ns c = cond (eqb (length ns) n) (asks c) bad

-- the call that a word and its numbers are
unfoldable pub call_of : List ℕ → List ℕ → Option Command
call_of w ns =
    let a = get_or ns 0 0 in
    let b = get_or ns 1 0 in
    let c = get_or ns 2 0 in
    let d = get_or ns 3 0 in
    let e = get_or ns 4 0 in
    cond (same_word w read_word) (counted 3 ns (Read a b c))
    (cond (same_word w write_word) (counted 3 ns (Write a b c))
    (cond (same_word w run_word) (counted 5 ns (Execute a b c d e))
    (cond (same_word w create_word) (counted 5 ns (Create a b c d e))
    (cond (same_word w root_word) (counted 4 ns (CreateRoot a b c d))
    (cond (same_word w move_word) (counted 5 ns (Move a b c d e))
    (cond (same_word w delete_word) (counted 4 ns (Delete a b c d))
    (cond (same_word w call_word) (counted 2 ns (CallTask a b))
    (cond (same_word w invoke_word) (counted 2 ns (Invoke a b))
    (cond (same_word w pass_word) (counted 3 ns (Pass a b c))
    (cond (same_word w post_word) (counted 3 ns (Post a b c))
    (cond (same_word w find_word) (counted 3 ns (Find a b c))
    (cond (same_word w mark_word) (counted 1 ns (Mark a))
    (cond (same_word w step_word) (counted 1 ns (Step a))
    (cond (same_word w spread_word) (counted 0 ns Spread)
    bad))))))))))))))

-- count, top and as many rows as the count says; the other rows are zero
unfoldable pub order_of : ℕ → List ℕ → Option Command
order_of n [] = bad
order_of n (t ∷ rs) =
    cond (eqb (length rs) n) (starts (record { rows = rs ++ replicate (most_levels - n) 0; count = n; top = t })) bad

-- what follows the word start
unfoldable pub start_of : List (List ℕ) → Option Command
start_of [] = bad
start_of (p ∷ ps) =
    cond (is_number p)
    (cond (leb (value p) most_levels) (cond (all_numbers ps) (order_of (value p) (values ps)) bad) (too_many (value p)))
    bad

unfoldable pub line_of : List (List ℕ) → Option Command
line_of [] = bad
line_of (w ∷ ps) = cond (same_word w start_word) (start_of ps) (cond (all_numbers ps) (call_of w (values ps)) bad)

-- what a line means
unfoldable pub read_line : List ℕ → Option Command
read_line bs = line_of (pieces bs)
