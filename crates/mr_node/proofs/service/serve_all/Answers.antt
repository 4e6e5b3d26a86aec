use Rattle.std.proofs.Common.{◌∙◌, ℕ, List, length, length-append, Bool, Result, Ok, Err, ap, subst, arith}
use Rattle.mr_node.specs.declared.ended.Ended.TheVariants as how
use Rattle.mr_node.specs.declared.session.SessionFault.{SessionFault}
use Rattle.mr_node.specs.declared.session.SessionFault.TheVariants.{TurnsSpent}
use Rattle.mr_node.specs.declared.session.SessionStep.{SessionStep}
use Rattle.mr_node.specs.declared.session.SessionStep.TheVariants.{Served, Waits, Ends}
use Rattle.mr_node.specs.Session.{PieceIs, station, read_length}
use Rattle.mr_node.proofs.CountLemmas.{reads_nothing, read_by, read_on, read_failed, same_fault}
use Rattle.mr_node.proofs.SessionLemmas.{begins_so, stepped, goes_on, waits_for, shrinks, ends, all_read, spent, step_fails, step_reads_well, step_not_spent, fed, read_fails}
use Rattle.mr_node.proofs.service.serve_all.Goals as goal

pub session-init : goal.session-init
session-init g c = record { so = begins_so _ _ _ c.args.requests.now c.requires; read = reads_nothing _ _ }

pub session-smaller-in-Ok-Served : goal.session-smaller-in-Ok-Served
session-smaller-in-Ok-Served g c =
    let step = stepped _ _ _ _ _ (station c.serve_next.new.clock c.serve_next.new.node (g.W.Sink.told c.serve_next.new.writer)) _ c.serve_next.new.requests _ c.session.invariant.so
    c.serve_next.result (Ok Served)
    (c.in-Ok-Served.is ∙ ap (λ (s : SessionStep). Ok s) c.in-Ok-Served.field-0-is)
    (c.serve_next.ensures c.session.invariant.so.rest c.session.invariant.so.becomes.stands) in
    omega (arith, shrinks _ _ _ _ _ (station c.serve_next.new.clock c.serve_next.new.node (g.W.Sink.told c.serve_next.new.writer)) _ c.serve_next.new.requests _ c.session.invariant.so step)

pub session-preserved-in-Ok-Served : goal.session-preserved-in-Ok-Served
session-preserved-in-Ok-Served g c =
    let step = stepped _ _ _ _ _ (station c.serve_next.new.clock c.serve_next.new.node (g.W.Sink.told c.serve_next.new.writer)) _ c.serve_next.new.requests _ c.session.invariant.so
    c.serve_next.result (Ok Served)
    (c.in-Ok-Served.is ∙ ap (λ (s : SessionStep). Ok s) c.in-Ok-Served.field-0-is)
    (c.serve_next.ensures c.session.invariant.so.rest c.session.invariant.so.becomes.stands) in
    record { so = goes_on _ _ _ _ _ (station c.serve_next.new.clock c.serve_next.new.node (g.W.Sink.told c.serve_next.new.writer)) _ c.serve_next.new.requests _ c.session.invariant.so step; read = c.session.invariant.read }

pub returns-in-Ok-Ends-clause-session : goal.returns-in-Ok-Ends-clause-session
returns-in-Ok-Ends-clause-session g c =
    let step = stepped _ _ _ _ _ (station c.serve_next.new.clock c.serve_next.new.node (g.W.Sink.told c.serve_next.new.writer)) _ c.serve_next.new.requests _ c.session.invariant.so
    c.serve_next.result (Ok (Ends c.in-Ok-Ends.how))
    (c.in-Ok-Ends.is ∙ ap (λ (s : SessionStep). Ok s) c.in-Ok-Ends.field-0-is)
    (c.serve_next.ensures c.session.invariant.so.rest c.session.invariant.so.becomes.stands) in
    ends _ _ _ _ _ (station c.serve_next.new.clock c.serve_next.new.node (g.W.Sink.told c.serve_next.new.writer)) _ c.serve_next.new.requests _ c.session.invariant.so c.in-Ok-Ends.how step

pub returns-in-Ok-Ends-clause-counts : goal.returns-in-Ok-Ends-clause-counts
returns-in-Ok-Ends-clause-counts g c = read_by _ _ _ _ _ c.session.invariant.read (Ok c.in-Ok-Ends.how) (λ e. cc) (λ e. cc)

pub returns-then-ended-clause-session : goal.returns-then-ended-clause-session
returns-then-ended-clause-session g c =
    let step = stepped _ _ _ _ _ (station c.serve_next.new.clock c.serve_next.new.node (g.W.Sink.told c.serve_next.new.writer)) _ c.serve_next.new.requests _ c.session.invariant.so
    c.serve_next.result (Ok Waits)
    (c.in-Ok-Waits.is ∙ ap (λ (s : SessionStep). Ok s) c.in-Ok-Waits.field-0-is)
    (c.serve_next.ensures c.session.invariant.so.rest c.session.invariant.so.becomes.stands) in
    all_read _ _ _ _ _ (station c.serve_next.new.clock c.serve_next.new.node (g.W.Sink.told c.serve_next.new.writer)) _ c.serve_next.new.requests _ c.session.invariant.so step c.if-ended.true

pub returns-then-ended-clause-counts : goal.returns-then-ended-clause-counts
returns-then-ended-clause-counts g c = read_by _ _ _ _ _ c.session.invariant.read (Ok how.Ended) (λ e. cc) (λ e. cc)

pub returns-then-turns_left-eq0-clause-session : goal.returns-then-turns_left-eq0-clause-session
returns-then-turns_left-eq0-clause-session g c =
    let step = stepped _ _ _ _ _ (station c.serve_next.new.clock c.serve_next.new.node (g.W.Sink.told c.serve_next.new.writer)) _ c.serve_next.new.requests _ c.session.invariant.so
    c.serve_next.result (Ok Waits)
    (c.in-Ok-Waits.is ∙ ap (λ (s : SessionStep). Ok s) c.in-Ok-Waits.field-0-is)
    (c.serve_next.ensures c.session.invariant.so.rest c.session.invariant.so.becomes.stands) in
    spent _ _ _ _ _ (station c.serve_next.new.clock c.serve_next.new.node (g.W.Sink.told c.serve_next.new.writer)) _ c.serve_next.new.requests _ c.session.invariant.so step

pub returns-then-turns_left-eq0-clause-counts : goal.returns-then-turns_left-eq0-clause-counts
returns-then-turns_left-eq0-clause-counts g c = read_by _ _ _ _ _ c.session.invariant.read (Err TurnsSpent) (λ e. cc) (λ e. (omega arith, c.if-ended.false))

pub returns-in-Err-clause-session : goal.returns-in-Err-clause-session
returns-in-Err-clause-session g c =
    let step = stepped _ _ _ _ _ (station c.serve_next.new.clock c.serve_next.new.node (g.W.Sink.told c.serve_next.new.writer)) _ c.serve_next.new.requests _ c.session.invariant.so
    c.serve_next.result (Err c.in-Err.fault)
    c.in-Err.is
    (c.serve_next.ensures c.session.invariant.so.rest c.session.invariant.so.becomes.stands) in
    step_fails _ _ _ _ _ (station c.serve_next.new.clock c.serve_next.new.node (g.W.Sink.told c.serve_next.new.writer)) _ c.serve_next.new.requests _ c.session.invariant.so c.in-Err.fault step

pub returns-in-Err-clause-counts : goal.returns-in-Err-clause-counts
returns-in-Err-clause-counts g c =
    let step = stepped _ _ _ _ _ (station c.serve_next.new.clock c.serve_next.new.node (g.W.Sink.told c.serve_next.new.writer)) _ c.serve_next.new.requests _ c.session.invariant.so
    c.serve_next.result (Err c.in-Err.fault)
    c.in-Err.is
    (c.serve_next.ensures c.session.invariant.so.rest c.session.invariant.so.becomes.stands) in
    read_by _ _ _ _ _ c.session.invariant.read (Err c.in-Err.fault)
    (λ e. step_reads_well _ _ _ _ _ (station c.serve_next.new.clock c.serve_next.new.node (g.W.Sink.told c.serve_next.new.writer)) _ c.serve_next.new.requests _ c.session.invariant.so c.in-Err.fault step (same_fault _ _ e))
    (λ e. absurd (step_not_spent _ _ _ _ _ (station c.serve_next.new.clock c.serve_next.new.node (g.W.Sink.told c.serve_next.new.writer)) _ c.serve_next.new.requests _ c.session.invariant.so c.in-Err.fault step (same_fault _ _ e)))

pub returns-in-Err-read_piece-clause-session : goal.returns-in-Err-read_piece-clause-session
returns-in-Err-read_piece-clause-session g c =
    let step = stepped _ _ _ _ _ (station c.serve_next.new.clock c.serve_next.new.node (g.W.Sink.told c.serve_next.new.writer)) _ c.serve_next.new.requests _ c.session.invariant.so
    c.serve_next.result (Ok Waits)
    (c.in-Ok-Waits.is ∙ ap (λ (s : SessionStep). Ok s) c.in-Ok-Waits.field-0-is)
    (c.serve_next.ensures c.session.invariant.so.rest c.session.invariant.so.becomes.stands) in
    read_fails _ _ _ _ _ (station c.serve_next.new.clock c.serve_next.new.node (g.W.Sink.told c.serve_next.new.writer)) _ c.serve_next.new.requests _ c.session.invariant.so read_length (g.S.Source.told c.read_piece.new.reader) c.read_piece.new.requests c.in-Err-read_piece.fault step c.read_piece.ensures.once
    (subst (λ (r : Result Bool SessionFault). PieceIs read_length c.session.invariant.so.rest c.read_piece.new.requests (g.S.Source.told c.session.reader) r (g.S.Source.told c.read_piece.new.reader))
    c.in-Err-read_piece.is (c.read_piece.ensures.piece c.session.invariant.so.rest (waits_for _ _ _ _ _ (station c.serve_next.new.clock c.serve_next.new.node (g.W.Sink.told c.serve_next.new.writer)) _ c.serve_next.new.requests _ c.session.invariant.so step).stands))

pub returns-in-Err-read_piece-clause-counts : goal.returns-in-Err-read_piece-clause-counts
returns-in-Err-read_piece-clause-counts g c =
    let step = stepped _ _ _ _ _ (station c.serve_next.new.clock c.serve_next.new.node (g.W.Sink.told c.serve_next.new.writer)) _ c.serve_next.new.requests _ c.session.invariant.so
    c.serve_next.result (Ok Waits)
    (c.in-Ok-Waits.is ∙ ap (λ (s : SessionStep). Ok s) c.in-Ok-Waits.field-0-is)
    (c.serve_next.ensures c.session.invariant.so.rest c.session.invariant.so.becomes.stands) in
    read_failed _ _ _ _ _ c.session.invariant.read read_length _ c.session.invariant.so.rest c.read_piece.new.requests (omega arith) (omega arith) c.if-ended.false c.read_piece.ensures.once c.read_piece.ensures.offered c.in-Err-read_piece.fault
    (subst (λ (r : Result Bool SessionFault). PieceIs read_length c.session.invariant.so.rest c.read_piece.new.requests (g.S.Source.told c.session.reader) r (g.S.Source.told c.read_piece.new.reader))
    c.in-Err-read_piece.is (c.read_piece.ensures.piece c.session.invariant.so.rest (waits_for _ _ _ _ _ (station c.serve_next.new.clock c.serve_next.new.node (g.W.Sink.told c.serve_next.new.writer)) _ c.serve_next.new.requests _ c.session.invariant.so step).stands))

pub session-smaller : goal.session-smaller
session-smaller g c =
    let step = stepped _ _ _ _ _ (station c.serve_next.new.clock c.serve_next.new.node (g.W.Sink.told c.serve_next.new.writer)) _ c.serve_next.new.requests _ c.session.invariant.so
    c.serve_next.result (Ok Waits)
    (c.in-Ok-Waits.is ∙ ap (λ (s : SessionStep). Ok s) c.in-Ok-Waits.field-0-is)
    (c.serve_next.ensures c.session.invariant.so.rest c.session.invariant.so.becomes.stands) in
    let piece = (subst (λ (r : Result Bool SessionFault). PieceIs read_length c.session.invariant.so.rest c.read_piece.new.requests (g.S.Source.told c.session.reader) r (g.S.Source.told c.read_piece.new.reader))
    c.in-Ok-read_piece.is (c.read_piece.ensures.piece c.session.invariant.so.rest (waits_for _ _ _ _ _ (station c.serve_next.new.clock c.serve_next.new.node (g.W.Sink.told c.serve_next.new.writer)) _ c.serve_next.new.requests _ c.session.invariant.so step).stands)) in
    let most = piece.3 in
    let was = ap (λ (l : List ℕ). length l) c.session.invariant.so.becomes.stands in
    let is = ap (λ (l : List ℕ). length l) piece.6.stands in
    omega (arith, length-append c.session.invariant.so.rest piece.0)

pub session-preserved : goal.session-preserved
session-preserved g c =
    let step = stepped _ _ _ _ _ (station c.serve_next.new.clock c.serve_next.new.node (g.W.Sink.told c.serve_next.new.writer)) _ c.serve_next.new.requests _ c.session.invariant.so
    c.serve_next.result (Ok Waits)
    (c.in-Ok-Waits.is ∙ ap (λ (s : SessionStep). Ok s) c.in-Ok-Waits.field-0-is)
    (c.serve_next.ensures c.session.invariant.so.rest c.session.invariant.so.becomes.stands) in
    let piece = (subst (λ (r : Result Bool SessionFault). PieceIs read_length c.session.invariant.so.rest c.read_piece.new.requests (g.S.Source.told c.session.reader) r (g.S.Source.told c.read_piece.new.reader))
    c.in-Ok-read_piece.is (c.read_piece.ensures.piece c.session.invariant.so.rest (waits_for _ _ _ _ _ (station c.serve_next.new.clock c.serve_next.new.node (g.W.Sink.told c.serve_next.new.writer)) _ c.serve_next.new.requests _ c.session.invariant.so step).stands)) in
    record {
      so = fed _ _ _ _ _ (station c.serve_next.new.clock c.serve_next.new.node (g.W.Sink.told c.serve_next.new.writer)) _ c.serve_next.new.requests _ c.session.invariant.so read_length (g.S.Source.told c.read_piece.new.reader) c.read_piece.new.requests c.in-Ok-read_piece.last step c.read_piece.ensures.once piece;
      read = read_on _ _ _ _ _ c.session.invariant.read read_length _ c.session.invariant.so.rest c.read_piece.new.requests (omega arith) (omega arith) c.if-ended.false c.read_piece.ensures.once c.read_piece.ensures.offered _ (omega arith) c.in-Ok-read_piece.last piece;
    }
