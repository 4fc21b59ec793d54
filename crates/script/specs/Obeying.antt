-- What a request brings: the state of a session before and after, and the reply.
use Rattle.std.specs.Prelude.{◌≡◌, ℕ, ◌⊎◌, List, replicate, Err, Option, Result}
use Rattle.refusals.specs.declared.refusal.Refusal.{Refusal}
use Rattle.refusals.specs.declared.refusal.Refusal.TheVariants.{NotALine}
use Rattle.layouts.specs.Over.{over}
use Rattle.layouts.specs.Table.{table, table_refusal}
use Rattle.layouts.specs.Types.{Types}
use Rattle.calls.specs.declared.record.HoldRecord.{HoldRecord}
use Rattle.calls.specs.Holds.{unheld}
use Rattle.calls.specs.Calls as calls
use Rattle.calls.specs.Calls.{Takes, Releases, Notes, Copies, Tells, Looks, Sets, Puts, Fetches}
use Rattle.heap.specs.Memory.{row_1, new_words}
use Rattle.lines.specs.Requests.{Request, types, heap, take, release, note, copy, tell, look, set, put, fetch}
use Rattle.script.specs.declared.reply.Reply.{Reply}
use Rattle.script.specs.declared.reply.Reply.TheVariants.{Number, Has}
use Rattle.script.specs.Replies.{Outcome, replied, done}

pub data State : Type 0 where
  -- no table was accepted
  empty : State
  -- the words of the table that was accepted
  typed : List ℕ → State
  -- these, with the words of the heap and its hold records
  ready : List ℕ → List ℕ → List HoldRecord → State

-- a table is accepted once, then a heap once, and then the calls come
pub data Phase : Type 0 where
  tables : Phase
  heaps : Phase
  calling : Phase

abbrev pub phase : State → Phase
phase empty = tables
phase (typed ns) = heaps
phase (ready ns w rs) = calling

abbrev pub phase_of : Request → Phase
phase_of (types ns) = tables
phase_of (heap l) = heaps
phase_of (take h) = calling
phase_of (release h) = calling
phase_of (note h c x) = calling
phase_of (copy g h) = calling
phase_of (tell h) = calling
phase_of (look h i) = calling
phase_of (set h i x) = calling
phase_of (put h i g) = calling
phase_of (fetch h i g) = calling

abbrev pub InOrder : State → Request → Type 0
InOrder s q = phase s ≡ phase_of q

-- refused where a row is due, and then all is as it was; else the state is the next one
abbrev pub Settles : Option Refusal → State → State → State → Outcome → Type 0
Settles due s next t r = (x : Result (Unit {0}) Refusal) × calls.Answers due (t ≡ s) (λ _. t ≡ next) x × (r ≡ done x)

abbrev pub OnTable : State → (List ℕ → Type 0) → Type 0
OnTable empty P = ⊥
OnTable (typed ns) P = P ns
OnTable (ready ns w rs) P = ⊥

abbrev pub OnHeap : State → (List ℕ → List ℕ → List HoldRecord → Type 0) → Type 0
OnHeap empty P = ⊥
OnHeap (typed ns) P = ⊥
OnHeap (ready ns w rs) P = P ns w rs

-- a call that changes the hold records at most
abbrev pub OnHolds : State → State → Outcome → (Types → List ℕ → List HoldRecord → List HoldRecord → Result (Unit {0}) Refusal → Type 0) → Type 0
OnHolds s t r Call = OnHeap s (λ ns w rs.
    (rs' : List HoldRecord) × (x : Result (Unit {0}) Refusal) × Call (over (table ns)) w rs rs' x × (t ≡ ready ns w rs') × (r ≡ done x))

-- a call that changes the words at most
abbrev pub OnWords : State → State → Outcome → (Types → List ℕ → List HoldRecord → List ℕ → Result (Unit {0}) Refusal → Type 0) → Type 0
OnWords s t r Call = OnHeap s (λ ns w rs.
    (w' : List ℕ) × (x : Result (Unit {0}) Refusal) × Call (over (table ns)) w rs w' x × (t ≡ ready ns w' rs) × (r ≡ done x))

-- a call that changes nothing
abbrev pub OnNone : {X : Type 0} → State → State → Outcome → (X → Reply) → (Types → List ℕ → List HoldRecord → Result X Refusal → Type 0) → Type 0
OnNone {X} s t r reply Call = OnHeap s (λ ns w rs.
    (x : Result X Refusal) × Call (over (table ns)) w rs x × (t ≡ s) × (r ≡ replied reply x))

-- what a request in order brings, by the relation of its call
abbrev pub Obeys : State → Request → State → Outcome → Type 0
Obeys s (types ns) t r = Settles (table_refusal ns) s (typed ns) t r
Obeys s (heap l) t r = OnTable s (λ ns. Settles (row_1 l l) s (ready ns (new_words l) (replicate 64 unheld)) t r)
Obeys s (take h) t r = OnHolds s t r (λ m w rs rs' x. Takes rs h rs' x)
Obeys s (release h) t r = OnHolds s t r (λ m w rs rs' x. Releases rs h rs' x)
Obeys s (note h c n) t r = OnHolds s t r (λ m w rs rs' x. Notes m rs h c n rs' x)
Obeys s (copy g h) t r = OnHolds s t r (λ m w rs rs' x. Copies rs g h rs' x)
Obeys s (tell h) t r = OnNone s t r Has (λ m w rs x. Tells rs h x)
Obeys s (look h i) t r = OnNone s t r Number (λ m w rs x. Looks m w rs h i x)
Obeys s (set h i n) t r = OnWords s t r (λ m w rs w' x. Sets m w rs h i n w' x)
Obeys s (put h i g) t r = OnWords s t r (λ m w rs w' x. Puts m w rs h i g w' x)
Obeys s (fetch h i g) t r = OnHolds s t r (λ m w rs rs' x. Fetches m w rs h i g rs' x)

-- out of order: no line of the script
abbrev pub Brings : State → ℕ → Request → State → Outcome → Type 0
Brings s number q t r =
    (InOrder s q × Obeys s q t r) ⊎ ((InOrder s q → ⊥) × (t ≡ s) × (r ≡ Err (NotALine number)))
