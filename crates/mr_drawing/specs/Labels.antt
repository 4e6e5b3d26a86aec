-- The words of a picture.
use Rattle.std.specs.Prelude.{ℕ, suc, ◌-◌, ◌==◌, nat_lt, List, [], ◌∷◌, ◌++◌, length, take, flat_map, if◌then◌else◌, codes}
use Rattle.mr_phases.specs.declared.phase_name.PhaseName.{PhaseName}
use Rattle.mr_phases.specs.declared.phase_name.PhaseName.TheVariants.{OldOnly, BothReadOld, BothReadNew, NewOnly}
use Rattle.mr_phases.specs.declared.side.RequestKind.{RequestKind}
use Rattle.mr_phases.specs.declared.side.RequestKind.TheVariants as kind
use Rattle.mr_phases.specs.declared.side.Side.{Side}
use Rattle.mr_phases.specs.declared.side.Side.TheVariants.{Old, New}
use Rattle.mr_text.specs.declared.request.Request.{Request}
use Rattle.mr_text.specs.declared.request.Request.TheVariants as request
use Rattle.mr_drawing.specs.Escape.{is_printable}
use Rattle.mr_drawing.specs.declared.steps.Outcome.{Outcome}
use Rattle.mr_drawing.specs.declared.steps.Outcome.TheVariants.{Hit, Miss, Stored, Deleted, Absent, Failed}

-- how many characters show a byte
abbrev pub width_of : ℕ → ℕ
width_of byte = if byte == 92 then 2 else if is_printable byte then 1 else 4

-- how many of these bytes, from the first on, are shown in so many characters
abbrev pub fitting : ℕ → List ℕ → ℕ
fitting room [] = 0
fitting room (byte ∷ bytes) = if nat_lt room (width_of byte) then 0 else suc (fitting (room - width_of byte) bytes)

-- the bytes as far as so many characters show them, with two dots behind them where some are left out
abbrev pub shortened : ℕ → List ℕ → List ℕ
shortened room bytes =
    if fitting room bytes == length bytes then bytes else take (fitting (room - 2) bytes) bytes ++ codes ".."

-- the verb of a request
abbrev pub verb_of : Request → List ℕ
verb_of (request.Get keys) = codes "get"
verb_of (request.Set key flags exptime block noreply) = codes "set"
verb_of (request.Delete key noreply) = codes "delete"
verb_of request.Quit = codes "quit"

-- keys, each behind a space
abbrev pub keys_of : List (List ℕ) → List ℕ
keys_of keys = flat_map (λ key. codes " " ++ key) keys

-- the keys of a request, each behind a space
abbrev pub keys_asked : Request → List ℕ
keys_asked (request.Get keys) = keys_of keys
keys_asked (request.Set key flags exptime block noreply) = codes " " ++ key
keys_asked (request.Delete key noreply) = codes " " ++ key
keys_asked request.Quit = []

-- what a request asks
abbrev pub request_label : Request → List ℕ
request_label asked = verb_of asked ++ keys_asked asked

-- what a leg to a side is called
abbrev pub kind_text : RequestKind → Side → List ℕ
kind_text kind.Get Old = codes "get old"
kind_text kind.Get New = codes "get new"
kind_text kind.Set Old = codes "set old"
kind_text kind.Set New = codes "set new"
kind_text kind.Delete Old = codes "del old"
kind_text kind.Delete New = codes "del new"

-- what a reply is called
abbrev pub outcome_text : Outcome → List ℕ
outcome_text Hit = codes "hit"
outcome_text Miss = codes "miss"
outcome_text Stored = codes "stored"
outcome_text Deleted = codes "deleted"
outcome_text Absent = codes "absent"
outcome_text Failed = codes "failed"

-- the letter of a phase
abbrev pub phase_letter : PhaseName → List ℕ
phase_letter OldOnly = codes "O"
phase_letter BothReadOld = codes "A"
phase_letter BothReadNew = codes "B"
phase_letter NewOnly = codes "N"
