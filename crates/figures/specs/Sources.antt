-- The worked figures of tables, of the rule and of a new heap.
use Rattle.std.specs.Prelude.{◌≡◌, ℕ, List, [], ◌∷◌, Some, None, slice_index_or}
use Rattle.refusals.specs.declared.refusal.Refusal.{Refusal}
use Rattle.refusals.specs.declared.refusal.Refusal.TheVariants.{TemplateEnd, EntryPair, EntryName}
use Rattle.refusals.specs.Table.{number_of, place_of}
use Rattle.layouts.specs.declared.entry.Entry.TheVariants.{Z, P}
use Rattle.layouts.specs.declared.entry.Class.TheVariants.{Plain, Pointer, SecondHalf}
use Rattle.layouts.specs.Classes.{class_of}
use Rattle.layouts.specs.Rule.{rule}
use Rattle.layouts.specs.Table.{table, table_refusal}
use Rattle.heap.specs.Memory.{new_words}

-- the table of three templates: of 4 words at index 1, of 2 at index 6, of none at index 9
abbrev pub three : List ℕ
three = 0 ∷ 4 ∷ 65537 ∷ 1 ∷ 65536 ∷ 65537 ∷ 2 ∷ 65537 ∷ 65537 ∷ 0 ∷ []

-- the words get the refusal of that number, at that place
abbrev pub RefusedBy : List ℕ → Refusal → ℕ → ℕ → Type 0
RefusedBy ws f n k = (table_refusal ws ≡ Some f) × (number_of f ≡ n) × (place_of f ≡ k)

pub record SourceFigures : Type 0 where
  -- the table of three templates gets no refusal, and its types have 4, 2 and no words
  pub accepted : table_refusal three ≡ None
  pub sizes : ((table three).size 1 ≡ Some 4) × ((table three).size 6 ≡ Some 2) × ((table three).size 9 ≡ Some 0)
  -- 0 2 65537 is refused by 23 at 1, 0 1 65536 by 25 at 2, 0 1 2 by 26 at 2; 0 1 1 gets no refusal
  pub runs_past : RefusedBy (0 ∷ 2 ∷ 65537 ∷ []) (TemplateEnd 1) 23 1
  pub unpaired : RefusedBy (0 ∷ 1 ∷ 65536 ∷ []) (EntryPair 2) 25 2
  pub unnamed : RefusedBy (0 ∷ 1 ∷ 2 ∷ []) (EntryName 2) 26 2
  pub itself : table_refusal (0 ∷ 1 ∷ 1 ∷ []) ≡ None
  -- by the rule the type 33,025 has 3 words: the two of a pointer, and a plain one
  pub rule_size : rule.size 33025 ≡ Some 3
  pub rule_entries : (rule.entry 33025 1 ≡ P) × (rule.entry 33025 2 ≡ Z) × (rule.entry 33025 3 ≡ Z)
  pub rule_classes : (class_of rule 33025 1 ≡ Pointer) × (class_of rule 33025 2 ≡ SecondHalf) × (class_of rule 33025 3 ≡ Plain)
  -- in a new heap of 13 words, word 1 reads 786,432: a run of 12 words that links to none
  pub new_heap : slice_index_or (new_words 13) 1 0 ≡ 786432
