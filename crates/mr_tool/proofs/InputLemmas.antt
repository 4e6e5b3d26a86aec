-- What the reads of an input say of what was taken of it.
use Rattle.std.proofs.Common.{arith, ◌≡◌, ℕ, ◌<◌, ◌≤◌, Bool, true, false, List, [], ◌++◌, length, Option, Some, None, Result, Ok, Err, IfErr, IsErrAnd, inl, subst, sym, ◌∙◌, ap, length-append}
use Rattle.std.proofs.lemmas.List.{append_assoc, append-nil}
use Rattle.std.specs.Io.KnownBytes.{Consumes}
use Rattle.mr_text.specs.Source.{SourceView, AreOffered, least_with}
use Rattle.mr_tool.specs.InputSteps.{AddsPiece, BringsInput}
use Rattle.mr_tool.specs.Input.{FailsWhole, Takes, TakesWhole, most_taken}
use Rattle.mr_tool.specs.declared.fault.Fault.{Fault}
use Rattle.mr_tool.specs.declared.fault.Fault.TheVariants.{Memory, Input, Output, File, Net, Plan, Pools, Phases, Node, Text}

consumes_more : (before now after : Option (List ℕ)) (early piece : List ℕ) → Consumes before now early → Consumes now after piece
    → Consumes before after (early ++ piece)
consumes_more None now after early piece h more = tt
consumes_more (Some bytes) None after early piece h more = absurd h
consumes_more (Some bytes) (Some rest) None early piece h more = absurd more
consumes_more (Some bytes) (Some rest) (Some end) early piece h more = h ∙ (ap (λ s. early ++ s) more ∙ sym (append_assoc early piece end))

-- room for each read so far, and for one more
offered_more : (before : Option ℕ) (room more : ℕ) → room ≤ more → AreOffered room before → AreOffered room (least_with before more)
offered_more None room more fits h = fits
offered_more (Some least) room more fits h = omega arith

module _ (before now after : SourceView) (early : List ℕ) (h : Takes early 0 before now) where
  -- one more piece
  pub takes_more : (piece : List ℕ) → BringsInput early piece now after → 0 < length piece → Takes (early ++ piece) 0 before after
  takes_more piece brings some =
      let reads = h.reads in
      let counted = brings.counted in
      let fits = brings.fits in
      let whole = length-append early piece in
      record {
        taken = brings.taken ∙ (ap (λ s. s ++ piece) h.taken ∙ append_assoc before.taken early piece);
        consumes = consumes_more before.left now.left after.left early piece h.consumes brings.consumes;
        fits = omega arith;
        reads = omega arith;
        offered = λ room small within old.
            subst (AreOffered room) (sym brings.offered)
            (offered_more now.least_room room _ (omega arith) (h.offered room small (omega arith) old));
      }

  -- one more read, which brought nothing
  pub takes_idle : BringsInput early [] now after → length early < most_taken → Takes early 1 before after
  takes_idle brings room_left =
      let reads = h.reads in
      let counted = brings.counted in
      record {
        taken = brings.taken ∙ (append-nil now.taken ∙ h.taken);
        consumes = subst (Consumes before.left after.left) (append-nil early) (consumes_more before.left now.left after.left early [] h.consumes brings.consumes);
        fits = omega arith;
        reads = omega arith;
        offered = λ room small within old.
            subst (AreOffered room) (sym brings.offered)
            (offered_more now.least_room room _ (omega arith) (h.offered room small within old));
      }

module _ (before now after : SourceView) (early bytes : List ℕ) (h : Takes early 0 before now) (steady : now.failures ≡ before.failures) where
  -- the end of the input
  pub input_ended : (is_end : Bool) → is_end ≡ true → AddsPiece early now (Ok is_end) bytes after → length early < most_taken → TakesWhole bytes before after
  input_ended false never adds room_left = cc
  input_ended true is adds room_left =
      let takes = takes_idle before now after early h adds.0 room_left in
      inl (record {
        takes = subst (λ (b : List ℕ). Takes b 1 before after) (sym adds.1) takes;
        steady = adds.2 ∙ steady;
        ended = adds.3;
      })

  -- one more piece
  pub input_added : (is_end : Bool) → is_end ≡ false → AddsPiece early now (Ok is_end) bytes after
      → Takes bytes 0 before after × (after.failures ≡ before.failures)
  input_added true never adds = cc
  input_added false is adds =
      let takes = takes_more before now after early h adds.0 adds.1.brings adds.1.some in
      (subst (λ (b : List ℕ). Takes b 0 before after) (sym adds.2) takes, adds.1.steady ∙ steady)

  -- a fault
  pub input_failed : {T : Type 0} (result : Result T Fault) (fault : Fault) → IsErrAnd result (λ other. other ≡ fault)
      → AddsPiece early now (Err fault) bytes after → length early < most_taken → IfErr result (λ other. FailsWhole other before after)
  input_failed (Ok value) fault is adds room_left = tt
  input_failed (Err other) fault is adds room_left = subst (λ (f : Fault). FailsWhole f before after) (sym is) (fails fault adds)
    where
      fails : (fault : Fault) → AddsPiece early now (Err fault) bytes after → FailsWhole fault before after
      fails Input adds = let failed = adds.1 in (early, takes_idle before now after early h adds.0 room_left, rw steady at failed)
      fails Memory adds =
          (early ++ adds.0, takes_more before now after early h adds.0 adds.1.brings adds.1.some, adds.1.steady ∙ steady)
      fails Output adds = absurd adds
      fails (File line) adds = absurd adds
      fails (Plan refusal) adds = absurd adds
      fails (Text refusal) adds = absurd adds
      fails (Net line) adds = absurd adds
      fails (Pools refusal) adds = absurd adds
      fails (Phases refusal) adds = absurd adds
      fails (Node refusal) adds = absurd adds
