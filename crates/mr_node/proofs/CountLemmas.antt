-- How much a session has read, and of how many turns.
use Rattle.std.proofs.Common.{◌≡◌, ◌≢◌, ◌∙◌, ℕ, ◌+◌, ◌*◌, ◌≤◌, List, length, length-append, Bool, false, Result, Ok, Err, refl, ap, inl, inr, arith}
use Rattle.mr_text.specs.Source.{SourceView, AreOffered, least_with}
use Rattle.mr_text.specs.Stream.{ReaderView}
use Rattle.mr_node.specs.declared.ended.Ended.{Ended}
use Rattle.mr_node.specs.declared.session.SessionFault.{SessionFault}
use Rattle.mr_node.specs.declared.session.SessionFault.TheVariants.{ReadFault, TurnsSpent}
use Rattle.mr_node.specs.Session.{PieceIs, ReadsWithin, SpendsTurns, read_length}
use Rattle.mr_node.specs.steps.Counts.{Counts}
use Rattle.mr_node.proofs.ReadLemmas.{still_offered}
use Rattle.mr_node.proofs.SessionLemmas.{reader_fails, reader_well, read_not_spent, failed_read_within}

-- how much a session under way has read
pub record ReadSoFar (turns left : ℕ) (ended : Bool) (old new : SourceView) : Type 0 where
  -- each turn is one read
  pub counted : new.reads + left ≡ old.reads + turns
  -- each read but that of the end brought a byte, and none more than it may
  pub brought : ended ≡ false → length old.taken + turns ≤ length new.taken + left
  pub idle : new.reads + length old.taken ≤ old.reads + length new.taken + 1
  pub within : length new.taken + left * read_length ≤ length old.taken + turns * read_length
  pub offered : AreOffered read_length old.least_room → AreOffered read_length new.least_room
  pub well : new.failures ≡ old.failures

pub reads_nothing : (turns : ℕ) (source : SourceView) → ReadSoFar turns turns false source source
reads_nothing turns source = record {
  counted = refl;
  brought = λ e. omega arith;
  idle = omega arith;
  within = omega arith;
  offered = λ e. e;
  well = refl;
}

abbrev failure : SessionFault → Result Ended SessionFault
failure fault = Err fault

pub same_fault : (one other : SessionFault) → failure one ≡ failure other → one ≡ other
same_fault one other is = cc

-- a read that fails takes no byte back
failed_read_keeps : (room : ℕ) (rest : List ℕ) (requests : ReaderView) (old new : SourceView) (e : SessionFault)
    → PieceIs room rest requests old (Err e) new → length old.taken ≤ length new.taken
failed_read_keeps room rest requests old new e (inl fault) = omega (arith, ap (λ (l : List ℕ). length l) fault.1)
failed_read_keeps room rest requests old new e (inr lacks) =
    omega (arith, ap (λ (l : List ℕ). length l) lacks.1.1, length-append old.taken lacks.1.0)

module _ (turns left : ℕ) (ended : Bool) (old new : SourceView) (so : ReadSoFar turns left ended old new) where
  -- what was read so far is within the turns
  pub within_so : ReadsWithin turns old new
  within_so =
      let counted = so.counted in
      let within = so.within in
      record { few = omega arith; idle = so.idle; bytes = omega arith; room = so.offered }

  -- no turn is left
  pub spent_so : left ≡ 0 → ended ≡ false → SpendsTurns turns old new
  spent_so none more =
      let counted = so.counted in
      let brought = so.brought more in
      record { all = omega arith; brought = omega arith }

  -- the session ends with no further read
  pub read_by : (result : Result Ended SessionFault) → result ≢ Err ReadFault
      → (result ≡ Err TurnsSpent → (left ≡ 0) × (ended ≡ false)) → Counts turns old new result
  read_by result other none = record {
    within = within_so;
    spent = λ e. spent_so (none e).0 (none e).1;
    failed = λ e. absurd (other e);
    well = λ e. so.well;
  }

  module _ (room : ℕ) (new' : SourceView) (rest : List ℕ) (requests : ReaderView) (some : 1 ≤ left) (whole : room ≡ read_length)
      (more : ended ≡ false) (once : new'.reads ≡ new.reads + 1) (offer : new'.least_room ≡ least_with new.least_room room) where
    -- one more read
    pub read_on : (less : ℕ) → less + 1 ≡ left → (ended' : Bool) → PieceIs room rest requests new (Ok ended') new' → ReadSoFar turns less ended' old new'
    read_on less one ended' piece =
        let counted = so.counted in
        let before = so.brought more in
        let within = so.within in
        let most = piece.3 in
        let longer = ap (λ (l : List ℕ). length l) piece.1 in
        let joined = length-append new.taken piece.0 in
        record {
          counted = omega arith;
          brought = λ e. (let byte = piece.4 e in omega arith);
          idle = omega arith;
          within = omega arith;
          offered = λ e. still_offered read_length room _ _ (omega arith) (so.offered e) offer;
          well = piece.7 ∙ so.well;
        }

    -- a read that failed is the last
    pub read_failed : (e : SessionFault) → PieceIs room rest requests new (Err e) new' → Counts turns old new' (Err e)
    read_failed e piece =
        let counted = so.counted in
        let before = so.brought more in
        let within = so.within in
        let most = failed_read_within room rest requests new new' e piece in
        let least = failed_read_keeps room rest requests new new' e piece in
        record {
          within = record {
            few = omega arith;
            idle = omega arith;
            bytes = omega arith;
            room = λ are. still_offered read_length room _ _ (omega arith) (so.offered are) offer;
          };
          spent = λ is. absurd (read_not_spent room rest requests new new' e piece (same_fault e TurnsSpent is));
          failed = λ is. reader_fails room rest requests new new' e piece (same_fault e ReadFault is) ∙ ap (λ n. n + 1) so.well;
          well = λ other. reader_well room rest requests new new' e piece (λ is. other (ap (λ (x : SessionFault). Err x) is)) ∙ so.well;
        }
