use Rattle.std.proofs.Common.{rules, refl, subst, inl}
use Rattle.layouts.specs.Over.{over}
use Rattle.layouts.specs.Table.{table}
use Rattle.calls.specs.Calls.{Fetches}
use Rattle.lines.specs.Commands.{Holds}
use Rattle.script.specs.Session.{table_words}
use Rattle.script.proofs.Mapped.{mapped_done}
use Rattle.script.proofs.store.Heap.call.Goals as goal

pub returns-in-Fetch : goal.returns-in-Fetch
returns-in-Fetch c = λ line q held.
    let own = subst (λ k. Holds k line q) c.in-Fetch.is held in
    let types = over (table (table_words c.args.source.now)) in
    rw own.0 (inl (
      refl,
      (
        c.fetch.new.holds.records,
        c.fetch.result,
        subst (λ w. Fetches types w c.args.self.now.holds.records c.in-Fetch.hold.value c.in-Fetch.word.value c.in-Fetch.to.value c.fetch.new.holds.records c.fetch.result) c.deref-in-Fetch.ensures.value c.fetch.ensures,
        refl,
        mapped_done _ _ _ (λ u r k. search rules) c.map-in-Fetch.ensures.cases,
      ),
    ))
