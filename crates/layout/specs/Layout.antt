-- A power-up layout, how deep it is, and its text, byte by byte.
-- Assumes nothing.
use Rattle.std.specs.Prelude.{cond, List, [], ◌∷◌, ◌++◌, ℕ, ◌+◌, ◌/◌, ◌%◌, ◌≤◌, max, ltb}
-- the numbers that an object's form names: its number, its driver's and its level
pub use Rattle.layout.specs.declared.fields.Object.{Object}
-- the numbers that a task's form names: its number, its image's, its level and the level that it reads
pub use Rattle.layout.specs.declared.fields.Task.{Task}

-- ---- a layout

-- objects side by side: the first one, what it holds, and those after it
pub data Objects : Type 0 where
  none : Objects
  object : Object → Objects → Objects → Objects

-- a form that stands in no other: a root object with what it holds, or a task
pub data Form : Type 0 where
  root : Object → Objects → Form
  task : Task → Form

-- in file order
abbrev pub Layout : Type 0
Layout = List Form

-- ---- how deep it is

-- how many levels lie one inside another
unfoldable pub depth_of : Objects → ℕ
depth_of none = 0
depth_of (object h inner next) = max (depth_of inner + 1) (depth_of next)

-- a root object is the first level; a task is none
unfoldable pub form_depth : Form → ℕ
form_depth (root h inner) = depth_of inner + 1
form_depth (task a) = 0

unfoldable pub depth : Layout → ℕ
depth [] = 0
depth (f ∷ fs) = max (form_depth f) (depth fs)

-- "up to eight deep"
abbrev pub most_deep : ℕ
most_deep = 8

-- ---- its numbers have at most three digits

abbrev pub most_number : ℕ
most_number = 999

abbrev pub ObjectFits : Object → Type 0
ObjectFits h = (h.number ≤ most_number) × (h.driver ≤ most_number) × (h.level ≤ most_number)

abbrev pub TaskFits : Task → Type 0
TaskFits a = (a.number ≤ most_number) × (a.image ≤ most_number) × (a.level ≤ most_number) × (a.reads ≤ most_number)

unfoldable pub ObjectsFit : Objects → Type 0
ObjectsFit none = Unit {0}
ObjectsFit (object h inner next) = ObjectFits h × ObjectsFit inner × ObjectsFit next

unfoldable pub FormFits : Form → Type 0
FormFits (root h inner) = ObjectFits h × ObjectsFit inner
FormFits (task a) = TaskFits a

unfoldable pub Fits : Layout → Type 0
Fits [] = Unit {0}
Fits (f ∷ fs) = FormFits f × Fits fs

-- ---- its text: each function writes in front of what follows

abbrev pub line_feed : ℕ
line_feed = 10

abbrev pub opening : ℕ
opening = 40

abbrev pub closing : ℕ
closing = 41

-- "(object "
unfoldable pub object_word : List ℕ
object_word = opening ∷ 111 ∷ 98 ∷ 106 ∷ 101 ∷ 99 ∷ 116 ∷ 32 ∷ []

-- " driver "
unfoldable pub driver_word : List ℕ
driver_word = 32 ∷ 100 ∷ 114 ∷ 105 ∷ 118 ∷ 101 ∷ 114 ∷ 32 ∷ []

-- " level "
unfoldable pub level_word : List ℕ
level_word = 32 ∷ 108 ∷ 101 ∷ 118 ∷ 101 ∷ 108 ∷ 32 ∷ []

-- "(task "
unfoldable pub task_word : List ℕ
task_word = opening ∷ 116 ∷ 97 ∷ 115 ∷ 107 ∷ 32 ∷ []

-- " image "
unfoldable pub image_word : List ℕ
image_word = 32 ∷ 105 ∷ 109 ∷ 97 ∷ 103 ∷ 101 ∷ 32 ∷ []

-- " reads "
unfoldable pub reads_word : List ℕ
reads_word = 32 ∷ 114 ∷ 101 ∷ 97 ∷ 100 ∷ 115 ∷ 32 ∷ []

abbrev pub digit : ℕ → ℕ
digit d = 48 + d

-- a number of at most three digits in decimal, without leading zeros
unfoldable pub decimal : ℕ → List ℕ
decimal n =
    cond (ltb n 10) (digit n ∷ [])
    (cond (ltb n 100) (digit (n / 10) ∷ digit (n % 10) ∷ [])
    (digit (n / 100) ∷ digit (n / 10 % 10) ∷ digit (n % 10) ∷ []))

-- a word, and the number after it
unfoldable pub field_text : List ℕ → ℕ → List ℕ → List ℕ
field_text w n rest = w ++ (decimal n ++ rest)

-- an object's words, up to what it holds
unfoldable pub head_text : Object → List ℕ → List ℕ
head_text h rest = field_text object_word h.number (field_text driver_word h.driver (field_text level_word h.level rest))

-- what an object holds: each on a line of its own, after a line feed
unfoldable pub inner_text : Objects → List ℕ → List ℕ
inner_text none rest = rest
inner_text (object h inner next) rest = line_feed ∷ head_text h (inner_text inner (closing ∷ inner_text next rest))

unfoldable pub object_text : Object → Objects → List ℕ → List ℕ
object_text h inner rest = head_text h (inner_text inner (closing ∷ rest))

unfoldable pub task_text : Task → List ℕ → List ℕ
task_text a rest = field_text task_word a.number (field_text image_word a.image (field_text level_word a.level (field_text reads_word a.reads (closing ∷ rest))))

unfoldable pub form_text : Form → List ℕ → List ℕ
form_text (root h inner) rest = object_text h inner rest
form_text (task a) rest = task_text a rest

-- a line feed stands after each form that is in no other
unfoldable pub written : Layout → List ℕ
written [] = []
written (f ∷ fs) = form_text f (line_feed ∷ written fs)

-- "at most 16 KiB"
abbrev pub most_bytes : ℕ
most_bytes = 16384
