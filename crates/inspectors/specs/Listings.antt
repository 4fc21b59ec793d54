-- What a visit does to a lister, and what the buffer holds after visits.
use Rattle.std.specs.Prelude.{◌≡◌, ℕ, ◌+◌, ◌<◌, ◌≤◌, cond, List, ◌++◌, length, take, drop, Some, None, Option, nat_le}
use Rattle.std.specs.Borrow.{MutBor}
use Rattle.std.specs.List.{flat_map}
use Rattle.scan.specs.Visits.{Visit, holds}
use Rattle.inspectors.specs.Lines.{line, with_now, appended}
use Rattle.inspectors.specs.declared.lister.Lister.{Lister}

abbrev pub line_of : Visit → List ℕ
line_of v = line v.code v.address v.words

-- the line after what is written, where it fits
abbrev pub lister_step : Lister → Visit → Option Lister
lister_step s v = cond (nat_le (s.used + length (line_of v)) (length s.out.now)) (Some (appended s (line_of v))) None

-- the same as a text that grows: the line after the text, where it fits into so many bytes
abbrev pub text_step : ℕ → List ℕ → Visit → Option (List ℕ)
text_step room text v = cond (nat_le (length text + length (line_of v)) room) (Some (text ++ line_of v)) None

-- the text of a lister
abbrev pub written : Lister → List ℕ
written s = take s.used s.out.now

-- its text lies within its buffer, which has so many bytes
abbrev pub Spans : ℕ → Lister → Type 0
Spans room s = (s.used ≤ length s.out.now) × (length s.out.now ≡ room)

-- nothing written yet
abbrev pub unwritten : MutBor (List ℕ) → Lister
unwritten buffer = record { out = buffer; used = 0 }

-- the lines of visits, one after the other
abbrev pub listing : List Visit → List ℕ
listing vs = flat_map line_of vs

-- the buffer holds the text, and past it what it held before
abbrev pub Holds : MutBor (List ℕ) → List ℕ → Lister → Type 0
Holds buffer text t = (t.out ≡ with_now buffer (text ++ drop (length text) buffer.now)) × (t.used ≡ length text)

-- after any visits the buffer holds their lines, and a visit is refused just where its line has no room
abbrev pub Writes : MutBor (List ℕ) → Lister → Type 0
Writes buffer s = (vs : List Visit) (t : Lister) → holds lister_step s vs ≡ Some t → Holds buffer (listing vs) t × ((v : Visit) → (lister_step t v ≡ None → length buffer.now < length (listing vs) + length (line_of v)) × (length buffer.now < length (listing vs) + length (line_of v) → lister_step t v ≡ None))
