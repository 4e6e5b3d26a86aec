-- What a request comes to, over anything that performs commands and any clock.
use Rattle.std.specs.Prelude.{◌≡◌, ℕ, ◌+◌, ◌⊎◌, List, [], ◌∷◌, ◌++◌, Option, Some, None}
use Rattle.std.specs.Option.{option_to_list}
use Rattle.mr_text.specs.declared.cause.Cause.{Cause}
use Rattle.mr_text.specs.declared.cause.Cause.TheVariants.{OutOfMemory, ClockFault}
use Rattle.mr_text.specs.declared.item.Item.{Item}
use Rattle.mr_text.specs.declared.reply.Reply.{Reply}
use Rattle.mr_text.specs.declared.reply.Reply.TheVariants.{Items, Stored, Deleted, NotFound, ServerError}
use Rattle.mr_text.specs.declared.request.Request.{Request}
use Rattle.mr_text.specs.declared.request.Request.TheVariants.{Get, Set, Delete, Quit}
use Rattle.mr_join.specs.declared.leg_reply.LegReply.{LegReply}
use Rattle.mr_join.specs.declared.leg_reply.LegReply.TheVariants.{Hit, Miss, Stored as LegStored, Deleted as LegDeleted, NotFound as LegNotFound, Failed}
use Rattle.mr_node.specs.declared.command.NodeCommand.{NodeCommand}
use Rattle.mr_node.specs.declared.command.NodeCommand.TheVariants.{Get as GetOf, Set as SetOf, Delete as DeleteOf}

-- what a command does: the state before it, the reading of the clock, the command, the reply, and the state after it
abbrev pub Did : Type 0 → Type 1
Did P = P → ℕ → NodeCommand → LegReply → P → Type 0

-- what a command leaves for which memory was refused
abbrev pub Refused : Type 0 → Type 1
Refused P = P → ℕ → NodeCommand → P → Type 0

-- what a request comes to: the clock and the state before it, the request, its outcome, and both after it
abbrev pub Outcomes : Type 0 → Type 0 → Type 1
Outcomes C P = C → P → Request → Reply → C → P → Type 0

-- what the client of a set or a delete is told
abbrev pub IsAnswerOf : LegReply → Reply → Type 0
IsAnswerOf LegStored reply = reply ≡ Stored
IsAnswerOf LegDeleted reply = reply ≡ Deleted
IsAnswerOf LegNotFound reply = reply ≡ NotFound
IsAnswerOf (Failed cause) reply = reply ≡ ServerError cause
IsAnswerOf (Hit flags block) reply = ⊥
IsAnswerOf Miss reply = ⊥

-- a set or a delete is performed, or lacks memory
abbrev pub CommandOutcome : {P : Type 0} → Did P → Refused P → P → ℕ → NodeCommand → Reply → P → Type 0
CommandOutcome did refused old now command reply new =
    ((leg : LegReply) × did old now command leg new × IsAnswerOf leg reply) ⊎
    (refused old now command new × (reply ≡ ServerError OutOfMemory))

-- a get of one key found this item, or none
abbrev pub LooksUp : {P : Type 0} → Did P → P → ℕ → List ℕ → Option Item → P → Type 0
LooksUp did old now key None new = did old now (GetOf key) Miss new
LooksUp did old now key (Some item) new = did old now (GetOf key) (Hit item.flags item.block) new × (item.key ≡ key)

-- gets of these keys, one after another at one reading, found these items, in this order
pub data Gets {P : Type 0} (did : Did P) (now : ℕ) (old : P) : List (List ℕ) → List Item → P → Type 0 where
  begins : Gets did now old [] [] old
  looks : {between new : P} {keys : List (List ℕ)} {items : List Item} (key : List ℕ) (found : Option Item)
      → Gets did now old keys items between → LooksUp did between now key found new
      → Gets did now old (keys ++ key ∷ []) (items ++ option_to_list found) new

-- a get of one key failed with this cause, or lacked memory before it was performed or in it
abbrev pub FailsToLookUp : {P : Type 0} → Did P → Refused P → P → ℕ → List ℕ → Cause → P → Type 0
FailsToLookUp did refused old now key cause new =
    did old now (GetOf key) (Failed cause) new ⊎
    ((cause ≡ OutOfMemory) × ((new ≡ old) ⊎ refused old now (GetOf key) new))

-- the gets of some first keys were performed, and that of the next failed
pub record StopsAtKey {P : Type 0} (did : Did P) (refused : Refused P)
    (old : P) (now : ℕ) (keys : List (List ℕ)) (cause : Cause) (new : P) : Type 0 where
  pub done : List (List ℕ)
  pub key : List ℕ
  pub later : List (List ℕ)
  pub found : List Item
  pub between : P
  pub splits : keys ≡ done ++ (key ∷ later)
  pub gets : Gets did now old done found between
  pub fails : FailsToLookUp did refused between now key cause new

-- all items that were found, or the cause of the first failure; what the gets before it did stays
abbrev pub GetOutcome : {P : Type 0} → Did P → Refused P → P → ℕ → List (List ℕ) → Reply → P → Type 0
GetOutcome did refused old now keys reply new =
    ((items : List Item) × Gets did now old keys items new × (reply ≡ Items items)) ⊎
    ((cause : Cause) × StopsAtKey did refused old now keys cause new × (reply ≡ ServerError cause))

-- the request at a reading of the clock
abbrev pub OutcomeAt : {P : Type 0} → Did P → Refused P → P → ℕ → Request → Reply → P → Type 0
OutcomeAt did refused old now (Get keys) reply new = GetOutcome did refused old now keys reply new
OutcomeAt did refused old now (Set key flags exptime block noreply) reply new =
    CommandOutcome did refused old now (SetOf key flags exptime block) reply new
OutcomeAt did refused old now (Delete key noreply) reply new = CommandOutcome did refused old now (DeleteOf key) reply new
OutcomeAt did refused old now Quit reply new = ⊥

-- One reading of the clock is taken for the request, and what it gives is used for all its commands. Where the clock
-- fails nothing is performed.
abbrev pub Outcome : {C P : Type 0} → (C → Option ℕ → C → Type 0) → (C → ℕ) → Did P → Refused P
    → C → P → Request → Reply → C → P → Type 0
Outcome reads failures did refused clock old request reply clock' new =
    ((now : ℕ) × reads clock (Some now) clock' × OutcomeAt did refused old now request reply new) ⊎
    (reads clock None clock' × (failures clock' ≡ failures clock + 1) × (reply ≡ ServerError ClockFault) × (new ≡ old))
