-- What a session prints for a line, and what it becomes.
use Rattle.std.specs.Prelude.{◌≡◌, ℕ, ◌⊎◌, List, Some, None, Err, Option}
use Rattle.refusals.specs.declared.refusal.Refusal.TheVariants.{NotALine}
use Rattle.sources.specs.declared.over.Over.{Over}
use Rattle.sources.specs.declared.table.Table.{Table}
use Rattle.sources.specs.Words.{words_of}
use Rattle.lines.specs.Requests.{Request, Line}
use Rattle.lines.specs.Words.{OneLine}
use Rattle.script.specs.declared.session.Session.{Session}
use Rattle.script.specs.declared.store.Heap.{Heap}
use Rattle.script.specs.declared.store.Store.{Store}
use Rattle.script.specs.Obeying.{State, empty, typed, ready, InOrder, Obeys}
use Rattle.script.specs.Replies.{Outcome, printed}

abbrev pub table_words : Over Table → List ℕ
table_words o = words_of o.below

abbrev pub opened : Over Table → Heap → State
opened o h = ready (table_words o) h.words.items h.holds.records

abbrev pub with_heap : Over Table → Option Heap → State
with_heap o None = typed (table_words o)
with_heap o (Some h) = opened o h

abbrev pub with_store : Option Store → State
with_store None = empty
with_store (Some s) = with_heap s.source s.heap

abbrev pub state : Session → State
state s = with_store s.store

-- the line asks for q, and it comes in order
abbrev pub Asks : List ℕ → State → Request → Type 0
Asks line s q = Line line q × InOrder s q

-- what is asked for in order is obeyed; anything else is no line of the script
pub record Answers (line : List ℕ) (number : ℕ) (s : State) (bytes : List ℕ) (t : State) : Type 0 where
  pub one_line : OneLine bytes
  pub asked : ((q : Request) × Asks line s q) ⊎ ((q : Request) → Asks line s q → ⊥)
  pub obeyed : (q : Request) → Asks line s q → (r : Outcome) × Obeys s q t r × (bytes ≡ printed r)
  pub other : ((q : Request) → Asks line s q → ⊥) → (bytes ≡ printed (Err (NotALine number))) × (t ≡ s)
