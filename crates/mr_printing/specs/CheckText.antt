-- What a check prints.
use Rattle.std.specs.Prelude.{ℕ, List, ◌++◌, Bool, true, false, codes, decimal}
use Rattle.mr_history.specs.declared.op_id.OpId.{OpId}
use Rattle.mr_world.specs.declared.premises.Premises.{Premises}
use Rattle.mr_transcripts.specs.declared.check.Checked.{Checked}
use Rattle.mr_transcripts.specs.declared.check.Outcome.{Outcome}
use Rattle.mr_transcripts.specs.declared.check.Outcome.TheVariants.{EventRefused, NotesDiffer, HistoryDiffers, PremisesDiffer, VerdictDiffers, PremiseFalse, NotSafe, Accepted}
use Rattle.mr_shown.specs.declared.verdict.KeptVerdict.{KeptVerdict}
use Rattle.mr_shown.specs.declared.verdict.KeptVerdict.TheVariants.{Safe, Stale, Invented}

-- the word of each truth
abbrev pub truth_text : Bool → List ℕ
truth_text true = codes "true"
truth_text false = codes "false"

-- a name, and whether what it names holds
abbrev pub premise_text : List ℕ → Bool → List ℕ
premise_text name holds = name ++ truth_text holds

-- the line of the premises: which hold
abbrev pub premises_line : Premises → List ℕ
premises_line premises =
    premise_text (codes "premises same ") premises.same
    ++ (premise_text (codes " new_empty ") premises.new_empty
    ++ (premise_text (codes " forward ") premises.forward ++ (premise_text (codes " near ") premises.near ++ codes "\n")))

-- the name of a request: its proxy, that proxy's incarnation, and the number there
abbrev pub op_text : OpId → List ℕ
op_text op = decimal op.proxy ++ (codes "." ++ (decimal op.incarnation ++ (codes "." ++ decimal op.number)))

-- the line of a get that hits what a delete should have removed
abbrev pub stale_line : OpId → OpId → List ℕ
stale_line get delete = codes "verdict stale get " ++ (op_text get ++ (codes " delete " ++ (op_text delete ++ codes "\n")))

-- the line of a get that hits what nothing had stored
abbrev pub invented_line : OpId → List ℕ
invented_line get = codes "verdict invented get " ++ (op_text get ++ codes "\n")

-- the line of the verdict
abbrev pub verdict_line : KeptVerdict → List ℕ
verdict_line Safe = codes "verdict safe\n"
verdict_line (Stale get key delete) = stale_line get delete
verdict_line (Invented get key) = invented_line get

-- the line of an event that is refused
abbrev pub refused_line : ℕ → List ℕ
refused_line index = codes "not accepted: event " ++ (decimal index ++ codes " refused\n")

-- the line of the outcome
abbrev pub outcome_line : Outcome → List ℕ
outcome_line (EventRefused index) = refused_line index
outcome_line NotesDiffer = codes "not accepted: notes differ\n"
outcome_line HistoryDiffers = codes "not accepted: history differs\n"
outcome_line PremisesDiffer = codes "not accepted: premises differ\n"
outcome_line VerdictDiffers = codes "not accepted: verdict differs\n"
outcome_line PremiseFalse = codes "not accepted: premise false\n"
outcome_line NotSafe = codes "not accepted: not safe\n"
outcome_line Accepted = codes "accepted\n"

-- the three lines of a check
abbrev pub check_text : Checked → List ℕ
check_text checked = premises_line checked.premises ++ (verdict_line checked.verdict ++ outcome_line checked.outcome)
