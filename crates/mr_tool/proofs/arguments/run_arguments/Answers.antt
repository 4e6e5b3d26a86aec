use Rattle.std.proofs.Common.{◌≡◌, drop, map, string_bytes, refl}
use Rattle.std.proofs.lemmas.Iterator.{items_from_collect}
use Rattle.std.proofs.lemmas.Iterator.Adapters.{YieldsList-from_vec}
use Rattle.std.specs.Vec.Iter.{into_iter_items}
use Rattle.mr_tool.proofs.WholeRun.{memory_whole, same_words_whole}
use Rattle.mr_tool.specs.Devices.{machine}
use Rattle.mr_tool.proofs.arguments.run_arguments.Goals as goal

pub returns-in_default : goal.returns-in_default
returns-in_default g c =
    rw c.in-Ok.is (memory_whole (map string_bytes (drop 1 (into_iter_items c.in-Ok.given))) _ _ _ _ _ _ _ c.tell_fault-in_default.ensures.status c.tell_fault-in_default.ensures.told)

pub returns-in_default-words_of : goal.returns-in_default-words_of
returns-in_default-words_of g c =
    rw c.in-Ok.is
    (memory_whole (map string_bytes (drop 1 (into_iter_items c.in-Ok.given))) _ _ _ _ _ _ _ c.tell_fault-in_default-words_of.ensures.status
    c.tell_fault-in_default-words_of.ensures.told)

pub returns : goal.returns
returns g c =
    let collected : c.in-Ok-collect.arguments.items ≡ into_iter_items c.in-Ok.given =
    (rw c.in-Ok-collect.is at (items_from_collect c.collect.result c.collect.ensures.ran (YieldsList-from_vec (into_iter_items c.in-Ok.given) refl c.in-Ok.given.rest.ok.0))) in
    let same : map (λ word. word.now) c.as_slice-2.result.now ≡ map string_bytes (drop 1 (into_iter_items c.in-Ok.given)) =
    rw (c.as_slice-2.ensures.value, c.in-Ok-words_of.ensures, c.as_slice.ensures.value, collected) refl in
    let before = machine (g.S.Sources.told c.args.sources.now) (g.I.Source.told c.args.input.now) (g.O.Sink.told c.args.output.now) (g.F.Sink.told c.args.faults.now)
    c.args.servers.now in
    let after = machine (g.S.Sources.told c.run_words.new.sources) (g.I.Source.told c.run_words.new.input) (g.O.Sink.told c.run_words.new.output)
    (g.F.Sink.told c.run_words.new.faults) c.run_words.new.servers in
    rw c.in-Ok.is (same_words_whole _ _ before after _ same c.run_words.ensures)
