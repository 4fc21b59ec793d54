-- The template rule of Fenichel's memo MAC TM-19: which words are a table of templates, and what the templates mean.
use Rattle.std.specs.Prelude.{◌≡◌, ℕ, zero, suc, ◌+◌, ◌≤◌, cond, List, [], ◌∷◌, ◌++◌, map, length, Some, None, Option, ◌==◌, slice_index_or}
use Rattle.std.specs.List.{AllByRecursion}
use Rattle.layouts.specs.declared.entry.Entry.{Entry}
use Rattle.layouts.specs.declared.entry.Entry.TheVariants.{Z, P, Code}
use Rattle.layouts.specs.Types.{Types}

-- a template is the entries of a type, one for each word of its cells
abbrev pub Template : Type 0
Template = List Entry

-- the word that stands for an entry
abbrev pub word_of : Entry → ℕ
word_of Z = 65537
word_of P = 65536
word_of (Code k) = k

-- templates one after the other, each as n and then its n entries
abbrev pub in_a_row : List Template → List ℕ
in_a_row [] = []
in_a_row (es ∷ ts) = length es ∷ map word_of es ++ in_a_row ts

-- the template that stands at index c of the table, where the first of ts stands at index k
abbrev pub template_from : ℕ → List Template → ℕ → Option Template
template_from k [] c = None
template_from k (es ∷ ts) c = cond (c == k) (Some es) (template_from (k + 1 + length es) ts c)

abbrev pub template_at : List Template → ℕ → Option Template
template_at ts c = template_from 1 ts c

-- there is a template at index c, and it has entries
abbrev pub Names : List Template → ℕ → Type 0
Names ts c = (es : Template) × (template_at ts c ≡ Some es) × (1 ≤ length es)

abbrev pub ZFirst : Template → Type 0
ZFirst [] = ⊥
ZFirst (Z ∷ es) = Unit {0}
ZFirst (P ∷ es) = ⊥
ZFirst (Code k ∷ es) = ⊥

-- after P comes Z, inside the template; a code is the index of a template with entries
abbrev pub Entries : (ℕ → Type 0) → Template → Type 0
Entries names [] = Unit {0}
Entries names (Z ∷ es) = Entries names es
Entries names (P ∷ es) = ZFirst es × Entries names es
Entries names (Code k ∷ es) = names k × Entries names es

-- the words are 0 and then templates one after the other, each of at most 255 entries that follow the rule
pub record FollowsRule (ws : List ℕ) : Type 0 where
  pub templates : List Template
  pub written : ws ≡ 0 ∷ in_a_row templates
  pub short : length ws ≤ 32768
  pub small : AllByRecursion (λ es. length es ≤ 255) templates
  pub entries : AllByRecursion (Entries (Names templates)) templates

-- what templates mean: the type-code is the template's index, n is the number of its entries
abbrev pub size_in : Option Template → Option ℕ
size_in None = None
size_in (Some es) = Some (length es)

abbrev pub entry_in : Option Template → ℕ → Entry
entry_in None i = Z
entry_in (Some es) zero = Z
entry_in (Some es) (suc i) = slice_index_or es i Z

abbrev pub types_of : List Template → Types
types_of ts = record {
  size = λ c. size_in (template_at ts c);
  entry = λ c i. entry_in (template_at ts c) i;
}
