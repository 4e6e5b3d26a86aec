use Rattle.std.proofs.Common.{◌≡◌, length, Some, None, arith}
use Rattle.std.specs.Prelude.{position}
use Rattle.mr_sightings.specs.Table.{is_of, with_more}
use Rattle.mr_sightings.proofs.TableLemmas.{row_has_more, new_row}
use Rattle.mr_sightings.proofs.table.Table.add.Goals as goal

pub returns-in-Some-clause-ok : goal.returns-in-Some-clause-ok
returns-in-Some-clause-ok c =
    let found : Some c.in-Some.place ≡ position (is_of c.args.hop c.args.phase) c.self.inside.rows.items =
    cc (c.in-Some.ensures, c.as_slice.ensures.value) in
    let more : c.add_at.new.rows ≡ with_more c.in-Some.place c.args.tally.now c.self.inside.rows.items =
    cc (c.add_at.ensures, c.deref_mut.ensures.value) in
    let same : length c.add_at.new.rows ≡ c.self.inside.rows.len = omega arith in
    let all =
    row_has_more c.args.hop c.args.phase c.args.tally.now c.self.inside.rows.items c.add_at.new.rows c.in-Some.place c.self.inside.rows.len found more same in
    cc (all, c.self.view_is)

pub returns-in_ok-push-in-None-clause-ok : goal.returns-in_ok-push-in-None-clause-ok
returns-in_ok-push-in-None-clause-ok c =
    let none : position (is_of c.args.hop c.args.phase) c.self.inside.rows.items ≡ None = cc (c.in-None.ensures, c.as_slice.ensures.value) in
    let all = new_row c.args.hop c.args.phase c.args.tally.now c.self.inside.rows.items none in
    cc (all, c.in_ok-push-in-None.ensures.items, c.self.view_is)
