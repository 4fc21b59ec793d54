-- Marks: one byte for each word of the heap, 1 where it is marked.
use Rattle.std.specs.Prelude.{◌≡◌, ℕ, zero, suc, ◌+◌, cond, List, [], ◌∷◌, ◌==◌, slice_index, slice_set}

abbrev pub IsMarked : List ℕ → ℕ → Type 0
IsMarked m a = slice_index m a ≡ 1

-- m with the n bytes from a on set to 1
abbrev pub mark_words : List ℕ → ℕ → ℕ → List ℕ
mark_words m a zero = m
mark_words m a (suc n) = slice_set (mark_words m a n) (a + n) 1

-- how many bytes are not 1
abbrev pub unmarked : List ℕ → ℕ
unmarked [] = 0
unmarked (b ∷ m) = cond (b == 1) (unmarked m) (suc (unmarked m))
