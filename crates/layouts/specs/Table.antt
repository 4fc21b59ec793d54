-- A table as words: which refusal it gets, and what an accepted table means.
use Rattle.std.specs.Prelude.{◌≡◌, ℕ, zero, suc, ◌+◌, ◌-◌, Bool, false, cond, not, ◌&&◌, ◌||◌, List, length, is_some, Some, None, Ok, Err, Option, Result, ◌==◌, nat_le, nat_lt, slice_index}
use Rattle.std.specs.Option.{option_or}
use Rattle.std.specs.Result.{result_err}
use Rattle.refusals.specs.declared.refusal.Refusal.{Refusal}
use Rattle.refusals.specs.declared.refusal.Refusal.TheVariants.{TableStart, TemplateSize, TemplateEnd, EntryNumber, EntryPair, EntryName}
use Rattle.layouts.specs.declared.entry.Entry.{Entry}
use Rattle.layouts.specs.declared.entry.Entry.TheVariants.{Z, P, Code}
use Rattle.layouts.specs.Types.{Types}

-- how many entries of a template are still due at word k: none where a template begins and where the last one ends
abbrev pub due : List ℕ → ℕ → ℕ
due ws zero = 0
due ws (suc k) = cond (due ws k == 0) (slice_index ws k) (due ws k - 1)

-- whether a template begins at word c; word 0 belongs to none
abbrev pub begins : List ℕ → ℕ → Bool
begins ws c = nat_le 1 c && (nat_lt c (length ws) && due ws c == 0)

-- 21: no words, more than 32,768 of them, or a word 0 that is not 0
abbrev pub bad_start : List ℕ → Bool
bad_start ws = length ws == 0 || (nat_lt 32768 (length ws) || not (slice_index ws 0 == 0))

-- 22 and 23, of the template that begins at word k: its n is above 255, or it runs past the end
abbrev pub template_refusal : List ℕ → ℕ → Option Refusal
template_refusal ws k =
    cond (due ws k == 0)
    (cond (nat_lt 255 (slice_index ws k)) (Some (TemplateSize k)) (cond (nat_lt (length ws) (k + 1 + slice_index ws k)) (Some (TemplateEnd k)) None))
    None

-- what the word k says as an entry: Z; P, where Z follows inside the template, else 25; the index of a template with entries,
-- else 26; any other number is 24
abbrev pub entry_said : List ℕ → ℕ → Result Entry Refusal
entry_said ws k =
    cond (slice_index ws k == 65537) (Ok Z)
    (cond (slice_index ws k == 65536)
    (cond (nat_le 2 (due ws k) && slice_index ws (k + 1) == 65537) (Ok P) (Err (EntryPair k)))
    (cond (nat_le 1 (slice_index ws k) && nat_le (slice_index ws k) 32767)
    (cond (begins ws (slice_index ws k) && nat_le 1 (slice_index ws (slice_index ws k))) (Ok (Code (slice_index ws k))) (Err (EntryName k)))
    (Err (EntryNumber k))))

-- 24 to 26, where the word k is an entry
abbrev pub entry_refusal : List ℕ → ℕ → Option Refusal
entry_refusal ws k = cond (due ws k == 0) None (result_err (entry_said ws k))

-- what f gives at the lowest number below n at which it gives anything
abbrev pub lowest : (ℕ → Option Refusal) → ℕ → Option Refusal
lowest f zero = None
lowest f (suc n) = option_or (lowest f n) (f n)

-- 21 first, then 22 and 23 through all templates, then the entries upward
abbrev pub table_refusal : List ℕ → Option Refusal
table_refusal ws =
    cond (bad_start ws) (Some TableStart)
    (option_or (lowest (template_refusal ws) (length ws)) (lowest (entry_refusal ws) (length ws)))

abbrev pub Accepted : List ℕ → Type 0
Accepted ws = is_some (table_refusal ws) ≡ false

-- the entry that a word stands for
abbrev pub entry_of : ℕ → Entry
entry_of w = cond (w == 65537) Z (cond (w == 65536) P (Code w))

-- the type-code is the index of the template
abbrev pub table : List ℕ → Types
table ws = record {
  size = λ c. cond (begins ws c) (Some (slice_index ws c)) None;
  entry = λ c i. cond (begins ws c && (nat_le 1 i && nat_le i (slice_index ws c))) (entry_of (slice_index ws (c + i))) Z;
}
