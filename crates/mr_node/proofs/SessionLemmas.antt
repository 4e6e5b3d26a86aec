-- What a service has read, done and written so far.
use Rattle.std.proofs.Common.{◌≡◌, ◌≢◌, ◌∙◌, ℕ, ◌+◌, ◌<◌, ◌≤◌, List, [], ◌∷◌, ◌++◌, length, Bool, true, false, Option, Some, None, Result, Ok, Err, refl, sym, ap, subst, inl, inr, arith, append_assoc, length-append}
use Rattle.std.specs.Io.KnownBytes.{Consumes, Keeps, IsAtEnd}
use Rattle.std.proofs.KnownBytes.{Consumes-nil, Consumes-trans, Consumes-kept}
use Rattle.std.proofs.lemmas.List.{append-nil}
use Rattle.std.proofs.lemmas.Grind.{flat_map-append}
use Rattle.mr_text.specs.Sink.{SinkView, HasWritten}
use Rattle.mr_text.specs.Source.{SourceView}
use Rattle.mr_text.specs.Requests.{SpellsRequest, RefusesRequest}
use Rattle.mr_text.specs.Stream.{ReaderView, IsUnfinished, Becomes}
use Rattle.mr_text.specs.declared.reply.Reply.{Reply}
use Rattle.mr_text.proofs.Writes.{written_none, written_then}
use Rattle.mr_node.specs.declared.ended.Ended.{Ended}
use Rattle.mr_node.specs.declared.ended.Ended.TheVariants as how
use Rattle.mr_node.specs.declared.session.SessionFault.{SessionFault}
use Rattle.mr_node.specs.declared.session.SessionFault.TheVariants.{OutOfMemory, ReadFault, WriteFault, TurnsSpent}
use Rattle.mr_node.specs.declared.session.SessionStep.{SessionStep}
use Rattle.mr_node.specs.declared.session.SessionStep.TheVariants.{Served, Waits, Ends}
use Rattle.mr_node.specs.Output.{Exchange, ReadsExchanges, SpellsExchange, answer_to, output_of, text_of_answer, text_of_exchange}
use Rattle.mr_node.specs.Session.{Station, Answers, Performs, DoesExchange, ServesInTurn, SessionServes, SessionIs, PieceIs}
use Rattle.mr_node.specs.steps.Step.{StepIs}
use Rattle.mr_node.specs.Outcome.{Outcomes}

-- an answer is its text, all of it
answered : (answer : Option Reply) (old new : SinkView) → Answers answer old new → HasWritten (text_of_answer answer) old new
answered None old new is = subst (λ (w : SinkView). HasWritten [] old w) (sym is) (written_none old)
answered (Some reply) old new is = is.0

module _ {C P : Type 0} (Does : Outcomes C P) (reader : SourceView) (old : Station C P) where
  serves_nothing : SessionServes Does reader reader old old []
  serves_nothing = record {
    exchanges = [];
    bytes = [];
    takes = sym (append-nil reader.taken);
    leaves = Consumes-nil reader.left;
    reads = ReadsExchanges.begins;
    performs = Performs.begins;
    writes = written_none old.writer;
    in_turn = ServesInTurn.begins;
  }

  -- one more exchange
  serves_more : (reader' : SourceView) (between new : Station C P) (rest spelling after : List ℕ) (exchange : Exchange)
      → SessionServes Does reader reader' old between rest → rest ≡ spelling ++ after → SpellsExchange spelling exchange
      → DoesExchange Does between exchange new → Answers (answer_to exchange) between.writer new.writer
      → SessionServes Does reader reader' old new after
  serves_more reader' between new rest spelling after exchange so splits spells does answers =
      let same : so.bytes ++ rest ≡ (so.bytes ++ spelling) ++ after = ap (λ (r : List ℕ). so.bytes ++ r) splits ∙ sym (append_assoc so.bytes spelling after) in
      let more : output_of so.exchanges ++ text_of_exchange exchange ≡ output_of (so.exchanges ++ exchange ∷ []) =
      sym (flat_map-append text_of_exchange so.exchanges (exchange ∷ []) ∙ ap (λ (t : List ℕ). output_of so.exchanges ++ t) (append-nil (text_of_exchange exchange))) in
      record {
        exchanges = so.exchanges ++ exchange ∷ [];
        bytes = so.bytes ++ spelling;
        takes = so.takes ∙ ap (λ (r : List ℕ). reader.taken ++ r) same;
        leaves = subst (λ (r : List ℕ). Consumes reader.left reader'.left r) same so.leaves;
        reads = ReadsExchanges.reads spelling exchange so.reads spells;
        performs = Performs.performs exchange so.performs does answers;
        writes = subst (λ (t : List ℕ). HasWritten t old.writer new.writer) more
            (written_then (output_of so.exchanges) (text_of_exchange exchange) old.writer between.writer new.writer so.writes
            (answered (answer_to exchange) between.writer new.writer answers));
        in_turn = ServesInTurn.serves spelling exchange
            (subst (λ (r : List ℕ). ServesInTurn Does reader old r reader' between) splits so.in_turn) spells does answers;
      }

  -- more bytes come
  serves_fed : (reader' reader'' : SourceView) (now : Station C P) (rest piece : List ℕ) → SessionServes Does reader reader' old now rest
      → IsUnfinished SpellsRequest RefusesRequest rest → reader''.reads ≡ reader'.reads + 1
      → reader''.taken ≡ reader'.taken ++ piece → Consumes reader'.left reader''.left piece → SessionServes Does reader reader'' old now (rest ++ piece)
  serves_fed reader' reader'' now rest piece so unfinished once more gone = record {
    exchanges = so.exchanges;
    bytes = so.bytes;
    takes = more ∙ ap (λ (t : List ℕ). t ++ piece) so.takes ∙ append_assoc reader.taken (so.bytes ++ rest) piece
        ∙ ap (λ (t : List ℕ). reader.taken ++ t) (append_assoc so.bytes rest piece);
    leaves = subst (λ (r : List ℕ). Consumes reader.left reader''.left r) (append_assoc so.bytes rest piece)
        (Consumes-trans reader.left reader'.left reader''.left (so.bytes ++ rest) piece so.leaves gone);
    reads = so.reads;
    performs = so.performs;
    writes = so.writes;
    in_turn = ServesInTurn.reads piece so.in_turn unfinished (record { takes = more; once = once });
  }

  -- none come
  serves_unfed : (reader' reader'' : SourceView) (now : Station C P) (rest : List ℕ) → SessionServes Does reader reader' old now rest
      → IsUnfinished SpellsRequest RefusesRequest rest → reader''.reads ≡ reader'.reads + 1
      → reader''.taken ≡ reader'.taken → Keeps reader'.left reader''.left → SessionServes Does reader reader'' old now rest
  serves_unfed reader' reader'' now rest so unfinished once none kept = record {
    exchanges = so.exchanges;
    bytes = so.bytes;
    takes = none ∙ so.takes;
    leaves = Consumes-kept reader.left reader'.left reader''.left (so.bytes ++ rest) so.leaves kept;
    reads = so.reads;
    performs = so.performs;
    writes = so.writes;
    in_turn = subst (λ (r : List ℕ). ServesInTurn Does reader old r reader'' now) (append-nil rest)
        (ServesInTurn.reads [] so.in_turn unfinished (record { takes = none ∙ sym (append-nil reader'.taken); once = once }));
  }

  -- there was no memory for bytes that came
  stops_for_memory : (reader' : SourceView) (now : Station C P) (rest : List ℕ) → 1 ≤ length rest → SessionServes Does reader reader' old now rest
      → SessionIs Does reader reader' old now (Err OutOfMemory)
  stops_for_memory reader' now rest some so = inr (record {
    rest = rest;
    serves = so;
    came = omega (arith, ap (λ (l : List ℕ). length l) so.takes, length-append reader.taken (so.bytes ++ rest), length-append so.bytes rest);
  })

  -- a service under way
  pub record UnderWay (reader' : SourceView) (now : Station C P) (requests : ReaderView) (ended : Bool) : Type 0 where
    pub rest : List ℕ
    pub becomes : Becomes requests rest ended false
    pub serves : SessionServes Does reader reader' old now rest
    pub at_end : ended ≡ true → IsAtEnd reader'.left

  pub begins_so : (requests : ReaderView) → Becomes requests [] false false → UnderWay reader old requests false
  begins_so requests becomes = record {
    rest = [];
    becomes = becomes;
    serves = serves_nothing;
    at_end = λ e. cc;
  }

  module _ (reader' : SourceView) (now new : Station C P) (requests requests' : ReaderView) (ended : Bool) (so : UnderWay reader' now requests ended) where
    -- what a step says, where its result is known
    pub stepped : (result result' : Result SessionStep SessionFault) → result ≡ result'
        → StepIs Does now new requests.ended so.rest requests' result → StepIs Does now new ended so.rest requests' result'
    stepped result result' is step =
        subst (λ (b : Bool). StepIs Does now new b so.rest requests' result') so.becomes.is_ended
        (subst (λ (r : Result SessionStep SessionFault). StepIs Does now new requests.ended so.rest requests' r) is step)

    -- a request was served
    pub goes_on : StepIs Does now new ended so.rest requests' (Ok Served) → UnderWay reader' new requests' ended
    goes_on step = record {
      rest = step.2;
      becomes = step.8;
      serves = serves_more reader' now new so.rest step.1 step.2 step.0 so.serves step.4 step.5 step.6 step.7;
      at_end = so.at_end;
    }

    pub waits_for : StepIs Does now new ended so.rest requests' (Ok Waits) → Becomes requests' so.rest ended false
    waits_for step = step.3

    pub shrinks : StepIs Does now new ended so.rest requests' (Ok Served) → length requests'.kept < length requests.kept
    shrinks step =
        let kept : requests.kept ≡ step.1 ++ step.2 = so.becomes.stands ∙ step.4 in
        let left : requests'.kept ≡ step.2 = step.8.stands in
        let some : 1 ≤ length step.1 = step.3 in
        omega (arith, ap (λ (l : List ℕ). length l) kept, ap (λ (l : List ℕ). length l) left, length-append step.1 step.2)

    -- nothing is whole
    waits : StepIs Does now new ended so.rest requests' (Ok Waits) → SessionServes Does reader reader' old new so.rest
    waits step = subst (λ (s : Station C P). SessionServes Does reader reader' old s so.rest) (sym step.0) so.serves

    -- the service ends
    pub ends : (how : Ended) → StepIs Does now new ended so.rest requests' (Ok (Ends how)) → SessionIs Does reader reader' old new (Ok how)
    ends how.Quit step = (
      so.rest,
      None,
      now,
      so.serves,
      (step.1, refl),
      ap (λ (s : Station C P). s.clock) step.0,
      ap (λ (s : Station C P). s.node) step.0,
      ap (λ (s : Station C P). s.writer) step.0,
    )
    ends how.Ended step = absurd step
    ends (how.Refused number) step =
        (so.rest, _, now, so.serves, (step.2, step.3, step.4, (λ e. so.at_end (step.5 e)), step.6, refl), step.0, step.1, step.7)

    pub all_read : StepIs Does now new ended so.rest requests' (Ok Waits) → ended ≡ true → SessionIs Does reader reader' old new (Ok how.Ended)
    all_read step done = (
      so.rest,
      None,
      now,
      so.serves,
      (step.2 done, so.at_end done, refl),
      ap (λ (s : Station C P). s.clock) step.0,
      ap (λ (s : Station C P). s.node) step.0,
      ap (λ (s : Station C P). s.writer) step.0,
    )

    pub spent : StepIs Does now new ended so.rest requests' (Ok Waits) → SessionIs Does reader reader' old new (Err TurnsSpent)
    spent step = (so.rest, waits step, step.1)

    pub step_fails : (e : SessionFault) → StepIs Does now new ended so.rest requests' (Err e) → SessionIs Does reader reader' old new (Err e)
    step_fails e (inl step) = subst (λ (x : SessionFault). SessionIs Does reader reader' old new (Err x)) (sym step.0)
        (stops_for_memory reader' new so.rest step.2
        (subst (λ (s : Station C P). SessionServes Does reader reader' old s so.rest) (sym step.1) so.serves))
    step_fails e (inr step) = subst (λ (x : SessionFault). SessionIs Does reader reader' old new (Err x)) (sym step.0)
        (so.rest, now, so.serves, step.1)

    -- a step that fails is no fault of the reader
    pub step_reads_well : (e : SessionFault) → StepIs Does now new ended so.rest requests' (Err e) → e ≢ ReadFault
    step_reads_well e (inl step) fault = (let memory = step.0 in let both : OutOfMemory ≡ ReadFault = sym memory ∙ fault in cc)
    step_reads_well e (inr step) fault = (let write = step.0 in let both : WriteFault ≡ ReadFault = sym write ∙ fault in cc)

    pub step_not_spent : (e : SessionFault) → StepIs Does now new ended so.rest requests' (Err e) → e ≢ TurnsSpent
    step_not_spent e (inl step) fault = (let memory = step.0 in let both : OutOfMemory ≡ TurnsSpent = sym memory ∙ fault in cc)
    step_not_spent e (inr step) fault = (let write = step.0 in let both : WriteFault ≡ TurnsSpent = sym write ∙ fault in cc)

    -- bytes came, or the end of the input
    pub fed : (room : ℕ) (reader'' : SourceView) (requests'' : ReaderView) (ended' : Bool) → StepIs Does now new ended so.rest requests' (Ok Waits)
        → reader''.reads ≡ reader'.reads + 1 → PieceIs room so.rest requests'' reader' (Ok ended') reader'' → UnderWay reader'' new requests'' ended'
    fed room reader'' requests'' ended' step once piece = record {
      rest = so.rest ++ piece.0;
      becomes = piece.6;
      serves = serves_fed reader' reader'' new so.rest piece.0 (waits step) step.1 once piece.1 piece.2;
      at_end = piece.5;
    }

    pub read_fails : (room : ℕ) (reader'' : SourceView) (requests'' : ReaderView) (e : SessionFault) → StepIs Does now new ended so.rest requests' (Ok Waits)
        → reader''.reads ≡ reader'.reads + 1 → PieceIs room so.rest requests'' reader' (Err e) reader'' → SessionIs Does reader reader'' old new (Err e)
    read_fails room reader'' requests'' e step once (inl fault) =
        subst (λ (x : SessionFault). SessionIs Does reader reader'' old new (Err x)) (sym fault.0)
        (so.rest, serves_unfed reader' reader'' new so.rest (waits step) step.1 once fault.1 fault.2, step.1)
    read_fails room reader'' requests'' e step once (inr lacks) =
        subst (λ (x : SessionFault). SessionIs Does reader reader'' old new (Err x)) (sym lacks.0)
        (stops_for_memory reader'' new (so.rest ++ lacks.1.0)
        (let some = lacks.1.4 in omega (arith, length-append so.rest lacks.1.0))
        (serves_fed reader' reader'' new so.rest lacks.1.0 (waits step) step.1 once lacks.1.1 lacks.1.2))

-- a read that fails is a fault of the reader where it says so
pub reader_fails : (room : ℕ) (rest : List ℕ) (requests : ReaderView) (old new : SourceView) (e : SessionFault)
    → PieceIs room rest requests old (Err e) new → e ≡ ReadFault → new.failures ≡ old.failures + 1
reader_fails room rest requests old new e (inl fault) is = fault.3
reader_fails room rest requests old new e (inr lacks) is = (let memory = lacks.0 in let both : OutOfMemory ≡ ReadFault = sym memory ∙ is in cc)

pub reader_well : (room : ℕ) (rest : List ℕ) (requests : ReaderView) (old new : SourceView) (e : SessionFault)
    → PieceIs room rest requests old (Err e) new → e ≢ ReadFault → new.failures ≡ old.failures
reader_well room rest requests old new e (inl fault) other = absurd (other fault.0)
reader_well room rest requests old new e (inr lacks) other = lacks.2

pub read_not_spent : (room : ℕ) (rest : List ℕ) (requests : ReaderView) (old new : SourceView) (e : SessionFault)
    → PieceIs room rest requests old (Err e) new → e ≢ TurnsSpent
read_not_spent room rest requests old new e (inl fault) spent = (let is = fault.0 in let both : ReadFault ≡ TurnsSpent = sym is ∙ spent in cc)
read_not_spent room rest requests old new e (inr lacks) spent = (let is = lacks.0 in let both : OutOfMemory ≡ TurnsSpent = sym is ∙ spent in cc)

-- a read that fails brings no more than it may
pub failed_read_within : (room : ℕ) (rest : List ℕ) (requests : ReaderView) (old new : SourceView) (e : SessionFault)
    → PieceIs room rest requests old (Err e) new → length new.taken ≤ length old.taken + room
failed_read_within room rest requests old new e (inl fault) = omega (arith, ap (λ (l : List ℕ). length l) fault.1)
failed_read_within room rest requests old new e (inr lacks) =
    let few = lacks.1.3 in
    omega (arith, ap (λ (l : List ℕ). length l) lacks.1.1, length-append old.taken lacks.1.0)
