mod Among
mod Counting
mod Dues
mod SlotLaws
mod EntryLaws
mod Answered
