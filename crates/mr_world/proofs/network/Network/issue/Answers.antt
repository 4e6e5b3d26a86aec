use Rattle.std.proofs.Common.{◌≡◌, ◌<◌, List, ◌++◌, ◌∷◌, [], length, map, All, slice_get, Some, None, MatchOption, refl, sym, ap, subst, ◌∙◌, arith}
use Rattle.std.proofs.lemmas.List.{length-map}
use Rattle.std.proofs.lemmas.Result.{err_from_is_err_and}
use Rattle.mr_history.specs.declared.entry.Entry.{Entry}
use Rattle.mr_history.specs.declared.entry.Entry.TheVariants as entry
use Rattle.mr_history.specs.declared.op_id.OpId.{OpId}
use Rattle.mr_history.specs.History.{Fits}
use Rattle.mr_history.specs.HistoryView.{HistoryView}
use Rattle.mr_history.specs.Places.{At}
use Rattle.mr_proxy.specs.Issue.{next_op, sheets_of, refusal_of}
use Rattle.mr_proxy.specs.Sheets.{IsPlaced}
use Rattle.mr_world.specs.contracts.network.Network.{the_view}
use Rattle.mr_proxy.specs.declared.world_error.WorldError.{WorldError}
use Rattle.mr_proxy.specs.declared.world_error.WorldError.TheVariants.{IssueRefused, OutOfMemory}
use Rattle.mr_world.specs.declared.note.Note.TheVariants.{Issued}
use Rattle.mr_world.specs.Network.{IsReady, message_by, HasNumber}
use Rattle.mr_world.specs.Refusals.{refused_request}
use Rattle.mr_world.specs.Steps.{message_of}
use Rattle.mr_world.specs.Tracked.{IsTracked, numbers_in, numbers_of}
use Rattle.mr_world.specs.WorldView.{WorldView}
use Rattle.mr_world.proofs.Lists.{at_read, at_one, at_within, get_mapped}
use Rattle.mr_world.proofs.NetworkLemmas.{asked_refusal, asked_refused, asked_for_memory, asks_of, valid_has_legs, placed_there, have_numbers, same_messages, same_issued, unchanged}
use Rattle.mr_world.proofs.TrackedLemmas.{issue_fits}
use Rattle.mr_world.proofs.network.Network.issue.Goals as goal

-- a proxy with a clock is there
home : (w : WorldView) (number reading : _) → IsTracked w → slice_get w.readings.standing number ≡ Some reading → number < length w.proxies
home w number reading tracked clock =
    let clocks = tracked.clocks in
    let at : At w.readings.standing number reading = record { gets = clock } in
    let within = at_within at in
    omega arith

pub index_mut-proxy-requires : goal.index_mut-proxy-requires
index_mut-proxy-requires c =
    let ready = subst IsReady (sym c.self.view_is) c.requires.ready in
    let clock = rw (← c.self.view_is) at c.requires.clock in
    let sized = c.self.inside.proxies.ok.0 in
    let within = home (the_view c.self.inside).world c.args.number c.args.reading ready.tracked clock in
    omega arith

pub returns-in_err-count : goal.returns-in_err-count
returns-in_err-count c =
    let ready = subst IsReady (sym c.self.view_is) c.requires.ready in
    let clock = rw (← c.self.view_is) at c.requires.clock in
    let v = the_view c.self.inside in
    let within = home v.world c.args.number c.args.reading ready.tracked clock in
    let p = c.index_mut-proxy.result.now in
    let at = at_read c.self.inside.proxies.items c.args.number p within c.index_mut-proxy.ensures.value in
    let told = c.in_err-count.ensures in
    let failed = err_from_is_err_and c.from_residual.result c.from_residual.ensures.1 in
    let refused = subst (λ (e : WorldError). MatchOption (refusal_of p) (e ≡ OutOfMemory) (λ r. e ≡ IssueRefused r)) (sym failed.2) told.refused in
    rw (failed.1, ← c.self.view_is) (
      asked_refused c.args.number (slice_get c.self.inside.proxies.items c.args.number) p c.args.request failed.0 c.requires.no_quit at.gets refused,
      unchanged v c.args.number p p c.make_room.new.sent.items c.make_room.new.history.entries at refl told.sent told.history,
    )

pub returns-in_default : goal.returns-in_default
returns-in_default c =
    let ready = subst IsReady (sym c.self.view_is) c.requires.ready in
    let clock = rw (← c.self.view_is) at c.requires.clock in
    let v = the_view c.self.inside in
    let within = home v.world c.args.number c.args.reading ready.tracked clock in
    let p = c.index_mut-proxy.result.now in
    let at = at_read c.self.inside.proxies.items c.args.number p within c.index_mut-proxy.ensures.value in
    let room = c.in_ok-count.ensures in
    let told = c.in_default.ensures in
    rw (← c.self.view_is) (
      asked_for_memory c.args.number (slice_get c.self.inside.proxies.items c.args.number) p c.args.request c.requires.no_quit at.gets room.accepted,
      unchanged v c.args.number c.issue_copy.new.core p c.make_room.new.sent.items c.make_room.new.history.entries at told.state room.sent room.history,
    )

pub index-requires : goal.index-requires
index-requires c =
    let ready = subst IsReady (sym c.self.view_is) c.requires.ready in
    let clock = rw (← c.self.view_is) at c.requires.clock in
    let w = (the_view c.self.inside).world in
    let within = home w c.args.number c.args.reading ready.tracked clock in
    let tables = ap length ready.numbers ∙ length-map w.proxies (numbers_in w.nodes) in
    let sized = c.self.inside.numbers.ok.0 in
    omega arith

pub send-requires-clause-numbered : goal.send-requires-clause-numbered
send-requires-clause-numbered c =
    let ready = subst IsReady (sym c.self.view_is) c.requires.ready in
    let clock = rw (← c.self.view_is) at c.requires.clock in
    let n = c.args.number in
    let w = (the_view c.self.inside).world in
    let within = home w n c.args.reading ready.tracked clock in
    let p = c.index_mut-proxy.result.now in
    let at = at_read c.self.inside.proxies.items n p within c.index_mut-proxy.ensures.value in
    let sound = (ready.tracked.proxies n p at).sound in
    let legs = c.in-Some.issued.legs.items in
    let table : At (numbers_of w.nodes w.proxies) n (numbers_in w.nodes p) = record { gets = get_mapped (numbers_in w.nodes) w.proxies n p at.gets } in
    let tables = ap length ready.numbers ∙ length-map w.proxies (numbers_in w.nodes) in
    let read = at_read c.self.inside.numbers.items n c.index.result.now (omega arith) c.index.ensures in
    let numbers : c.index.result.now ≡ numbers_in w.nodes p = at_one (subst (λ l. At l n c.index.result.now) ready.numbers read) table in
    subst (λ t. All (HasNumber t) legs) (sym numbers) (have_numbers w.nodes p legs (placed_there p.routing legs sound.routing c.in-Some.ensures.nodes))

pub push-requires-clause-fits : goal.push-requires-clause-fits
push-requires-clause-fits c =
    let ready = subst IsReady (sym c.self.view_is) c.requires.ready in
    let clock = rw (← c.self.view_is) at c.requires.clock in
    let n = c.args.number in
    let w = (the_view c.self.inside).world in
    let within = home w n c.args.reading ready.tracked clock in
    let p = c.index_mut-proxy.result.now in
    let at = at_read c.self.inside.proxies.items n p within c.index_mut-proxy.ensures.value in
    let fits = issue_fits c.next_op_is_new.ensures w n p c.args.request ready.tracked at in
    subst (λ (H : List Entry). Fits H (entry.Issued c.in-Some.issued.op n c.args.request)) (sym c.in_ok-count.ensures.history)
    (subst (λ (op : OpId). Fits c.self.inside.history.entries (entry.Issued op n c.args.request)) (sym c.in-Some.ensures.op) fits)

pub returns : goal.returns
returns c =
    let ready = subst IsReady (sym c.self.view_is) c.requires.ready in
    let clock = rw (← c.self.view_is) at c.requires.clock in
    let n = c.args.number in
    let p = c.index_mut-proxy.result.now in
    let reading = c.args.reading in
    let request = c.args.request in
    let w = (the_view c.self.inside).world in
    let within = home w n reading ready.tracked clock in
    let at = at_read c.self.inside.proxies.items n p within c.index_mut-proxy.ensures.value in
    let sound = (ready.tracked.proxies n p at).sound in
    let sheets = sheets_of p reading request in
    let room = c.in_ok-count.ensures in
    let issued = c.in-Some.issued in
    let legs = c.in-Some.ensures.legs in
    let placed = subst (All (IsPlaced p.routing)) legs c.in-Some.ensures.nodes in
    let table : At (numbers_of w.nodes w.proxies) n (numbers_in w.nodes p) = record { gets = get_mapped (numbers_in w.nodes) w.proxies n p at.gets } in
    let tables = ap length ready.numbers ∙ length-map w.proxies (numbers_in w.nodes) in
    let read = at_read c.self.inside.numbers.items n c.index.result.now (omega arith) c.index.ensures in
    let numbers : c.index.result.now ≡ numbers_in w.nodes p = at_one (subst (λ l. At l n c.index.result.now) ready.numbers read) table in
    let sent : c.send.new.sent.items ≡ w.sent ++ map (message_of w.nodes p.routing) sheets =
    c.send.ensures ∙ ap (λ l. l ++ map (message_by c.index.result.now) issued.legs.items) room.sent
    ∙ ap (λ t. w.sent ++ map (message_by t) issued.legs.items) numbers
    ∙ ap (λ l. w.sent ++ map (message_by (numbers_in w.nodes p)) l) legs
    ∙ ap (λ l. w.sent ++ l) (same_messages w.nodes p sheets (placed_there p.routing sheets sound.routing placed)) in
    let history : c.push.new.self.entries ≡ w.history ++ entry.Issued (next_op p) n request ∷ [] =
    ap (λ (h : HistoryView). h.entries) c.push.ensures
    ∙ ap (λ l. l ++ entry.Issued issued.op n request ∷ []) room.history
    ∙ ap (λ op. w.history ++ entry.Issued op n request ∷ []) c.in-Some.ensures.op in
    let first : c.len-first.result ≡ length w.sent =
    (let counted = c.len-first.ensures in let sized = c.make_room.new.sent.ok.0 in let kept = ap length room.sent in omega arith) in
    rw (← c.self.view_is) (
      ap (λ o. refused_request o request) at.gets ∙ asked_refusal p request None c.requires.no_quit room.accepted,
      asks_of w n request _ _ c.requires.no_quit (record {
        proxy = p;
        reading = reading;
        home = at;
        clock = record { gets = clock };
        has_legs = valid_has_legs request c.requires.no_quit c.request_is_valid.ensures;
        accepted = room.accepted;
        tells = ap (λ op. Issued op c.len-first.result c.in_ok-count.count) c.in-Some.ensures.op ∙ ap (λ k. Issued (next_op p) k c.in_ok-count.count) first
            ∙ ap (λ k. Issued (next_op p) (length w.sent) k) room.count;
        becomes = same_issued w n _ _ _ _ _ _ c.in-Some.ensures.state sent history;
      }),
      refl,
    )
