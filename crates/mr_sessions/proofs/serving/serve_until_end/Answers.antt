use Rattle.std.proofs.Common.{ℕ, List, length, length-append, Ok, Err, sym, ap, subst, arith}
use Rattle.std.proofs.lemmas.Result.{err_from_is_err_and}
use Rattle.mr_node.specs.declared.ended.Ended.TheVariants as how
use Rattle.mr_node.specs.declared.session.SessionStep.{SessionStep}
use Rattle.mr_node.specs.declared.session.SessionStep.TheVariants.{Served, Waits, Ends}
use Rattle.mr_node.specs.Session.{read_length}
use Rattle.mr_node.proofs.CountLemmas.{reads_nothing, read_on, read_failed}
use Rattle.mr_node.proofs.SessionLemmas.{begins_so, stepped, goes_on, waits_for, shrinks, ends, all_read, spent, fed, read_fails}
use Rattle.mr_desks.specs.declared.error.WorkerError.{WorkerError}
use Rattle.mr_desks.specs.declared.error.WorkerError.TheVariants.{TurnsSpent}
use Rattle.mr_sessions.specs.ClientSession.{ClientSessionIs}
use Rattle.mr_sessions.specs.Asking.{desk_rules}
use Rattle.mr_sessions.specs.steps.ClientCounts.{ClientCounts}
use Rattle.mr_sessions.specs.steps.Standing.{standing}
use Rattle.mr_sessions.proofs.CountLemmas.{stops_well, stops_unspent, client_read_by, client_counts}
use Rattle.mr_sessions.proofs.StepLemmas.{fails_so, client_told, reads_well, not_spent}
use Rattle.mr_sessions.proofs.serving.serve_until_end.Goals as goal

pub session-init : goal.session-init
session-init g c = record {
  so = begins_so _ _ _ c.new-requests.result c.new-requests.ensures.stands;
  read = reads_nothing _ _;
}

pub returns-in_err-answer_next-clause-session : goal.returns-in_err-answer_next-clause-session
returns-in_err-answer_next-clause-session g c =
    let p = err_from_is_err_and c.from_residual.result c.from_residual.ensures.1 in
    rw (p.1, p.2) (fails_so (desk_rules g.K.Clock.reads g.K.Clock.failures g.C.Carrier.gave g.D.Desk.recorded) _ _ _ _ (standing c.answer_next.new.clock c.answer_next.new.log (g.L.Carriers.told c.answer_next.new.carriers) (g.W.Sink.told c.answer_next.new.writer)) _ c.answer_next.new.requests _ c.session.invariant.so c.in_err-answer_next.field-0.0
    (c.in_err-answer_next.ensures c.session.invariant.so.rest c.session.invariant.so.becomes.stands))

pub session-smaller-in-Served : goal.session-smaller-in-Served
session-smaller-in-Served g c =
    omega (
      arith,
      shrinks _ _ _ _ _ (standing c.answer_next.new.clock c.answer_next.new.log (g.L.Carriers.told c.answer_next.new.carriers) (g.W.Sink.told c.answer_next.new.writer)) _ c.answer_next.new.requests _ c.session.invariant.so
          (stepped _ _ _ _ _ (standing c.answer_next.new.clock c.answer_next.new.log (g.L.Carriers.told c.answer_next.new.carriers) (g.W.Sink.told c.answer_next.new.writer)) _ c.answer_next.new.requests _ c.session.invariant.so (Ok c.in_ok-answer_next.field-0) (Ok Served) (ap (λ (s : SessionStep). Ok s) c.in-Served.is) (c.in_ok-answer_next.ensures c.session.invariant.so.rest c.session.invariant.so.becomes.stands)),
    )

pub session-preserved-in-Served : goal.session-preserved-in-Served
session-preserved-in-Served g c =
    let step = stepped _ _ _ _ _ (standing c.answer_next.new.clock c.answer_next.new.log (g.L.Carriers.told c.answer_next.new.carriers) (g.W.Sink.told c.answer_next.new.writer)) _ c.answer_next.new.requests _ c.session.invariant.so (Ok c.in_ok-answer_next.field-0) (Ok Served) (ap (λ (s : SessionStep). Ok s) c.in-Served.is) (c.in_ok-answer_next.ensures c.session.invariant.so.rest c.session.invariant.so.becomes.stands) in
    record {
      so = goes_on _ _ _ _ _ (standing c.answer_next.new.clock c.answer_next.new.log (g.L.Carriers.told c.answer_next.new.carriers) (g.W.Sink.told c.answer_next.new.writer)) _ c.answer_next.new.requests _ c.session.invariant.so step;
      read = c.session.invariant.read;
    }

pub returns-in-Ends-clause-session : goal.returns-in-Ends-clause-session
returns-in-Ends-clause-session g c =
    ends _ _ _ _ _ (standing c.answer_next.new.clock c.answer_next.new.log (g.L.Carriers.told c.answer_next.new.carriers) (g.W.Sink.told c.answer_next.new.writer)) _ c.answer_next.new.requests _ c.session.invariant.so c.in-Ends.how
    (stepped _ _ _ _ _ (standing c.answer_next.new.clock c.answer_next.new.log (g.L.Carriers.told c.answer_next.new.carriers) (g.W.Sink.told c.answer_next.new.writer)) _ c.answer_next.new.requests _ c.session.invariant.so (Ok c.in_ok-answer_next.field-0) (Ok (Ends c.in-Ends.how)) (ap (λ (s : SessionStep). Ok s) c.in-Ends.is) (c.in_ok-answer_next.ensures c.session.invariant.so.rest c.session.invariant.so.becomes.stands))

pub returns-then-ended-clause-session : goal.returns-then-ended-clause-session
returns-then-ended-clause-session g c =
    all_read _ _ _ _ _ (standing c.answer_next.new.clock c.answer_next.new.log (g.L.Carriers.told c.answer_next.new.carriers) (g.W.Sink.told c.answer_next.new.writer)) _ c.answer_next.new.requests _ c.session.invariant.so
    (stepped _ _ _ _ _ (standing c.answer_next.new.clock c.answer_next.new.log (g.L.Carriers.told c.answer_next.new.carriers) (g.W.Sink.told c.answer_next.new.writer)) _ c.answer_next.new.requests _ c.session.invariant.so (Ok c.in_ok-answer_next.field-0) (Ok Waits) (ap (λ (s : SessionStep). Ok s) c.in-Waits.is) (c.in_ok-answer_next.ensures c.session.invariant.so.rest c.session.invariant.so.becomes.stands)) c.if-ended.true

pub returns-then-turns_left-eq0-clause-session : goal.returns-then-turns_left-eq0-clause-session
returns-then-turns_left-eq0-clause-session g c =
    spent _ _ _ _ _ (standing c.answer_next.new.clock c.answer_next.new.log (g.L.Carriers.told c.answer_next.new.carriers) (g.W.Sink.told c.answer_next.new.writer)) _ c.answer_next.new.requests _ c.session.invariant.so
    (stepped _ _ _ _ _ (standing c.answer_next.new.clock c.answer_next.new.log (g.L.Carriers.told c.answer_next.new.carriers) (g.W.Sink.told c.answer_next.new.writer)) _ c.answer_next.new.requests _ c.session.invariant.so (Ok c.in_ok-answer_next.field-0) (Ok Waits) (ap (λ (s : SessionStep). Ok s) c.in-Waits.is) (c.in_ok-answer_next.ensures c.session.invariant.so.rest c.session.invariant.so.becomes.stands))

pub returns-in-Err-clause-session : goal.returns-in-Err-clause-session
returns-in-Err-clause-session g c =
    let step = stepped _ _ _ _ _ (standing c.answer_next.new.clock c.answer_next.new.log (g.L.Carriers.told c.answer_next.new.carriers) (g.W.Sink.told c.answer_next.new.writer)) _ c.answer_next.new.requests _ c.session.invariant.so (Ok c.in_ok-answer_next.field-0) (Ok Waits) (ap (λ (s : SessionStep). Ok s) c.in-Waits.is) (c.in_ok-answer_next.ensures c.session.invariant.so.rest c.session.invariant.so.becomes.stands) in
    subst (λ (e : WorkerError). ClientSessionIs (desk_rules g.K.Clock.reads g.K.Clock.failures g.C.Carrier.gave g.D.Desk.recorded) (g.S.Source.told c.args.reader.now) (g.S.Source.told c.read_piece.new.reader)
    (standing c.args.clock.now c.args.log.now (g.L.Carriers.told c.args.carriers.now) (g.W.Sink.told c.args.writer.now))
    (standing c.answer_next.new.clock c.answer_next.new.log (g.L.Carriers.told c.answer_next.new.carriers) (g.W.Sink.told c.answer_next.new.writer))
    (Err e)) (sym c.worker_error_of.ensures)
    (client_told (desk_rules g.K.Clock.reads g.K.Clock.failures g.C.Carrier.gave g.D.Desk.recorded) (g.S.Source.told c.args.reader.now) (g.S.Source.told c.read_piece.new.reader)
    (standing c.args.clock.now c.args.log.now (g.L.Carriers.told c.args.carriers.now) (g.W.Sink.told c.args.writer.now))
    (standing c.answer_next.new.clock c.answer_next.new.log (g.L.Carriers.told c.answer_next.new.carriers) (g.W.Sink.told c.answer_next.new.writer)) c.in-Err.fault
    (read_fails _ _ _ _ _ (standing c.answer_next.new.clock c.answer_next.new.log (g.L.Carriers.told c.answer_next.new.carriers) (g.W.Sink.told c.answer_next.new.writer)) _ c.answer_next.new.requests _ c.session.invariant.so read_length (g.S.Source.told c.read_piece.new.reader) c.read_piece.new.requests c.in-Err.fault step c.read_piece.ensures.once
    (c.in-Err.ensures.piece c.session.invariant.so.rest (waits_for _ _ _ _ _ (standing c.answer_next.new.clock c.answer_next.new.log (g.L.Carriers.told c.answer_next.new.carriers) (g.W.Sink.told c.answer_next.new.writer)) _ c.answer_next.new.requests _ c.session.invariant.so step).stands)))

pub returns-in-Err-clause-counts : goal.returns-in-Err-clause-counts
returns-in-Err-clause-counts g c =
    let step = stepped _ _ _ _ _ (standing c.answer_next.new.clock c.answer_next.new.log (g.L.Carriers.told c.answer_next.new.carriers) (g.W.Sink.told c.answer_next.new.writer)) _ c.answer_next.new.requests _ c.session.invariant.so (Ok c.in_ok-answer_next.field-0) (Ok Waits) (ap (λ (s : SessionStep). Ok s) c.in-Waits.is) (c.in_ok-answer_next.ensures c.session.invariant.so.rest c.session.invariant.so.becomes.stands) in
    subst (λ (e : WorkerError). ClientCounts c.args.turns (g.S.Source.told c.args.reader.now) (g.S.Source.told c.read_piece.new.reader) (Err e)) (sym c.worker_error_of.ensures)
    (client_counts _ _ _ c.in-Err.fault
    (read_failed _ _ _ _ _ c.session.invariant.read read_length _ c.session.invariant.so.rest c.read_piece.new.requests (omega arith) (omega arith) c.if-ended.false c.read_piece.ensures.once c.read_piece.ensures.offered c.in-Err.fault
    (c.in-Err.ensures.piece c.session.invariant.so.rest (waits_for _ _ _ _ _ (standing c.answer_next.new.clock c.answer_next.new.log (g.L.Carriers.told c.answer_next.new.carriers) (g.W.Sink.told c.answer_next.new.writer)) _ c.answer_next.new.requests _ c.session.invariant.so step).stands)))

pub returns-in_err-answer_next-clause-counts : goal.returns-in_err-answer_next-clause-counts
returns-in_err-answer_next-clause-counts g c =
    let p = err_from_is_err_and c.from_residual.result c.from_residual.ensures.1 in
    let is = c.in_err-answer_next.ensures c.session.invariant.so.rest c.session.invariant.so.becomes.stands in
    rw (p.1, p.2) (client_read_by _ _ _ _ _ c.session.invariant.read _
    (stops_well _ (reads_well (desk_rules g.K.Clock.reads g.K.Clock.failures g.C.Carrier.gave g.D.Desk.recorded) _ _ _ _ (standing c.answer_next.new.clock c.answer_next.new.log (g.L.Carriers.told c.answer_next.new.carriers) (g.W.Sink.told c.answer_next.new.writer)) _ c.answer_next.new.requests _ c.session.invariant.so _ is))
    (λ e. absurd (stops_unspent _ (not_spent (desk_rules g.K.Clock.reads g.K.Clock.failures g.C.Carrier.gave g.D.Desk.recorded) _ _ _ _ (standing c.answer_next.new.clock c.answer_next.new.log (g.L.Carriers.told c.answer_next.new.carriers) (g.W.Sink.told c.answer_next.new.writer)) _ c.answer_next.new.requests _ c.session.invariant.so _ is) e)))

pub returns-in-Ends-clause-counts : goal.returns-in-Ends-clause-counts
returns-in-Ends-clause-counts g c = client_read_by _ _ _ _ _ c.session.invariant.read (Ok c.in-Ends.how) (λ e. cc) (λ e. cc)

pub returns-then-ended-clause-counts : goal.returns-then-ended-clause-counts
returns-then-ended-clause-counts g c = client_read_by _ _ _ _ _ c.session.invariant.read (Ok how.Ended) (λ e. cc) (λ e. cc)

pub returns-then-turns_left-eq0-clause-counts : goal.returns-then-turns_left-eq0-clause-counts
returns-then-turns_left-eq0-clause-counts g c = client_read_by _ _ _ _ _ c.session.invariant.read (Err TurnsSpent) (λ e. cc) (λ e. (omega arith, c.if-ended.false))

pub session-smaller : goal.session-smaller
session-smaller g c =
    let step = stepped _ _ _ _ _ (standing c.answer_next.new.clock c.answer_next.new.log (g.L.Carriers.told c.answer_next.new.carriers) (g.W.Sink.told c.answer_next.new.writer)) _ c.answer_next.new.requests _ c.session.invariant.so (Ok c.in_ok-answer_next.field-0) (Ok Waits) (ap (λ (s : SessionStep). Ok s) c.in-Waits.is) (c.in_ok-answer_next.ensures c.session.invariant.so.rest c.session.invariant.so.becomes.stands) in
    let piece = c.in-Ok.ensures.piece c.session.invariant.so.rest (waits_for _ _ _ _ _ (standing c.answer_next.new.clock c.answer_next.new.log (g.L.Carriers.told c.answer_next.new.carriers) (g.W.Sink.told c.answer_next.new.writer)) _ c.answer_next.new.requests _ c.session.invariant.so step).stands in
    let most = piece.3 in
    let was = ap (λ (l : List ℕ). length l) c.session.invariant.so.becomes.stands in
    let is = ap (λ (l : List ℕ). length l) piece.6.stands in
    omega (arith, length-append c.session.invariant.so.rest piece.0)

pub session-preserved : goal.session-preserved
session-preserved g c =
    let step = stepped _ _ _ _ _ (standing c.answer_next.new.clock c.answer_next.new.log (g.L.Carriers.told c.answer_next.new.carriers) (g.W.Sink.told c.answer_next.new.writer)) _ c.answer_next.new.requests _ c.session.invariant.so (Ok c.in_ok-answer_next.field-0) (Ok Waits) (ap (λ (s : SessionStep). Ok s) c.in-Waits.is) (c.in_ok-answer_next.ensures c.session.invariant.so.rest c.session.invariant.so.becomes.stands) in
    let piece = c.in-Ok.ensures.piece c.session.invariant.so.rest (waits_for _ _ _ _ _ (standing c.answer_next.new.clock c.answer_next.new.log (g.L.Carriers.told c.answer_next.new.carriers) (g.W.Sink.told c.answer_next.new.writer)) _ c.answer_next.new.requests _ c.session.invariant.so step).stands in
    record {
      so = fed _ _ _ _ _ (standing c.answer_next.new.clock c.answer_next.new.log (g.L.Carriers.told c.answer_next.new.carriers) (g.W.Sink.told c.answer_next.new.writer)) _ c.answer_next.new.requests _ c.session.invariant.so read_length (g.S.Source.told c.read_piece.new.reader) c.read_piece.new.requests c.in-Ok.at_end step c.read_piece.ensures.once piece;
      read = read_on _ _ _ _ _ c.session.invariant.read read_length _ c.session.invariant.so.rest c.read_piece.new.requests (omega arith) (omega arith) c.if-ended.false c.read_piece.ensures.once c.read_piece.ensures.offered _ (omega arith) c.in-Ok.at_end piece;
    }
