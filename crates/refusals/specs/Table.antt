-- The refusal table: the number, the layer and the place of each refusal.
use Rattle.std.specs.Prelude.{ℕ}
use Rattle.refusals.specs.declared.refusal.Layer.{Layer}
use Rattle.refusals.specs.declared.refusal.Layer.TheVariants.{Hold, Heap, Inspector, Source, Script}
use Rattle.refusals.specs.declared.refusal.Refusal.{Refusal}
use Rattle.refusals.specs.declared.refusal.Refusal.TheVariants.{MemorySize, HoldNumber, HoldState, NoType, TypeSize, NoCell, UnfitCell, NoWord, WordClass, Broken, NoRun, InspectorFull, TableStart, TemplateSize, TemplateEnd, EntryNumber, EntryPair, EntryName, MaskFull, NotALine}

abbrev pub number_of : Refusal → ℕ
number_of MemorySize = 1
number_of (HoldNumber hold) = 2
number_of (HoldState hold) = 3
number_of (NoType code) = 4
number_of (TypeSize code) = 5
number_of (NoCell hold) = 6
number_of (UnfitCell hold) = 7
number_of (NoWord word) = 8
number_of (WordClass word) = 9
number_of (Broken address) = 10
number_of (NoRun size) = 11
number_of (InspectorFull address) = 12
number_of TableStart = 21
number_of (TemplateSize index) = 22
number_of (TemplateEnd index) = 23
number_of (EntryNumber index) = 24
number_of (EntryPair index) = 25
number_of (EntryName index) = 26
number_of MaskFull = 27
number_of (NotALine line) = 30

abbrev pub layer_of : Refusal → Layer
layer_of MemorySize = Heap
layer_of (HoldNumber hold) = Hold
layer_of (HoldState hold) = Hold
layer_of (NoType code) = Heap
layer_of (TypeSize code) = Heap
layer_of (NoCell hold) = Heap
layer_of (UnfitCell hold) = Heap
layer_of (NoWord word) = Heap
layer_of (WordClass word) = Heap
layer_of (Broken address) = Heap
layer_of (NoRun size) = Heap
layer_of (InspectorFull address) = Inspector
layer_of TableStart = Source
layer_of (TemplateSize index) = Source
layer_of (TemplateEnd index) = Source
layer_of (EntryNumber index) = Source
layer_of (EntryPair index) = Source
layer_of (EntryName index) = Source
layer_of MaskFull = Source
layer_of (NotALine line) = Script

-- the hold, type-code, word, address, size, index of the table or line that the refusal is about
abbrev pub place_of : Refusal → ℕ
place_of MemorySize = 0
place_of (HoldNumber hold) = hold
place_of (HoldState hold) = hold
place_of (NoType code) = code
place_of (TypeSize code) = code
place_of (NoCell hold) = hold
place_of (UnfitCell hold) = hold
place_of (NoWord word) = word
place_of (WordClass word) = word
place_of (Broken address) = address
place_of (NoRun size) = size
place_of (InspectorFull address) = address
place_of TableStart = 0
place_of (TemplateSize index) = index
place_of (TemplateEnd index) = index
place_of (EntryNumber index) = index
place_of (EntryPair index) = index
place_of (EntryName index) = index
place_of MaskFull = 32
place_of (NotALine line) = line
