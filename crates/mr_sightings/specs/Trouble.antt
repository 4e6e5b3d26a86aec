-- Why requests come to nothing.
use Rattle.std.specs.Prelude.{◌≡◌, ℕ, Bool, true, false, List, [], ◌∷◌, ◌++◌, map, codes, refl}
use Rattle.mr_text.specs.CauseText.{text_of_cause}
use Rattle.mr_text.specs.declared.cause.Cause.{Cause}
use Rattle.mr_text.specs.declared.cause.Cause.TheVariants as cause
use Rattle.mr_sightings.specs.declared.trouble.Trouble.{Trouble}
use Rattle.mr_sightings.specs.declared.trouble.Trouble.TheVariants.{Busy, LegLost, ClockFault, OutOfMemory, NodeRefused, OtherServerError, ClientError, Error, NoReply, BrokeOff, Silent}

-- an error of a server that says this cause
abbrev pub server_error : Cause → List ℕ
server_error why = codes "SERVER_ERROR " ++ text_of_cause why

-- how each is told
abbrev pub trouble_text : Trouble → List ℕ
trouble_text Busy = server_error cause.Busy
trouble_text LegLost = server_error cause.LegLost
trouble_text ClockFault = server_error cause.ClockFault
trouble_text OutOfMemory = server_error cause.OutOfMemory
trouble_text NodeRefused = server_error cause.NodeRefused
trouble_text OtherServerError = codes "SERVER_ERROR"
trouble_text ClientError = codes "CLIENT_ERROR"
trouble_text Error = codes "ERROR"
trouble_text NoReply = codes "no reply to it"
trouble_text BrokeOff = codes "broke off"
trouble_text Silent = codes "silent"

-- whether a proxy answered: an error is an answer, what is no reply to the request isn't
abbrev pub is_error : Trouble → Bool
is_error Busy = true
is_error LegLost = true
is_error ClockFault = true
is_error OutOfMemory = true
is_error NodeRefused = true
is_error OtherServerError = true
is_error ClientError = true
is_error Error = true
is_error NoReply = false
is_error BrokeOff = false
is_error Silent = false

-- all of them, in the order in which they are counted and told
abbrev pub all_troubles : List Trouble
all_troubles =
    Busy ∷ LegLost ∷ ClockFault ∷ OutOfMemory ∷ NodeRefused ∷ OtherServerError ∷ ClientError ∷ Error ∷ NoReply ∷ BrokeOff ∷ Silent ∷ []

-- the place of each among them
abbrev pub place_of : Trouble → ℕ
place_of Busy = 0
place_of LegLost = 1
place_of ClockFault = 2
place_of OutOfMemory = 3
place_of NodeRefused = 4
place_of OtherServerError = 5
place_of ClientError = 6
place_of Error = 7
place_of NoReply = 8
place_of BrokeOff = 9
place_of Silent = 10

-- each has a place of its own
pub own-places : map place_of all_troubles ≡ 0 ∷ 1 ∷ 2 ∷ 3 ∷ 4 ∷ 5 ∷ 6 ∷ 7 ∷ 8 ∷ 9 ∷ 10 ∷ []
own-places = refl
