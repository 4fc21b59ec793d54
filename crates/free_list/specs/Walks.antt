-- One step of a walk along the free list.
use Rattle.std.specs.Prelude.{◌≡◌, ℕ, ◌+◌, ◌-◌, [], length, slice_index, Some, None, Ok, Err, Option, Result}
use Rattle.std.specs.Iterator.{Count, at_most}
use Rattle.free_list.specs.declared.runs.Break.{Break}
use Rattle.free_list.specs.declared.runs.Found.{Found}
use Rattle.free_list.specs.declared.runs.Runs.{Runs}
use Rattle.free_list.specs.Free.{link_of, Next, BrokenLink}

-- the walk s gave r, and is t now: it gives no more after a broken link
abbrev pub GivesRun : Runs → Option (Result Found Break) → Runs → Type 0
GivesRun s None t = link_of (slice_index s.words.now s.link_at) ≡ 0
GivesRun s (Some (Ok f)) t =
    (f.link_at ≡ s.link_at) × Next s.words.now s.link_at s.end f.run f.size
    × (t.words.now ≡ s.words.now) × (t.link_at ≡ f.run) × (t.end ≡ f.run + f.size)
GivesRun s (Some (Err b)) t = (b.at ≡ s.link_at) × BrokenLink s.words.now s.link_at s.end × (t.words.now ≡ [])

-- each run begins at a later word
abbrev pub words_ahead : Runs → Count
words_ahead s = at_most (length s.words.now - s.link_at)
