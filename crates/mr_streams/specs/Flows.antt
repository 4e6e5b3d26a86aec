-- What the bytes on their way over one connection are, in terms of messages and their deliveries.
use Rattle.std.specs.Prelude.{◌≡◌, ℕ, ◌⊎◌, true, List, [], ◌∷◌, ◌++◌}
use Rattle.std.specs.List.{flat_map, AllByRecursion}
use Rattle.mr_text.specs.Canonical.{canonical_reply}
use Rattle.mr_text.specs.Valid.{IsValidRequest, IsValidReply}
use Rattle.mr_text.specs.declared.reply.Reply.{Reply}
use Rattle.mr_text.specs.declared.request.Request.{Request}
use Rattle.mr_text.specs.declared.reply.Reply.TheVariants.{Items, Stored, Deleted, NotFound, Error, ClientError, ServerError}
use Rattle.mr_history.specs.Places.{At}
use Rattle.mr_join.specs.declared.leg_reply.LegReply.{LegReply}
use Rattle.mr_proxy.specs.NodeRequests.{request_with}
use Rattle.mr_proxy.specs.declared.sheet.LegSheet.{LegSheet}
use Rattle.mr_loop.specs.Links.{is_get, legs_of, text_of}
use Rattle.mr_loop.specs.Returning.{AnswersSent}
use Rattle.mr_loop.specs.declared.sent_legs.SentLeg.{SentLeg}
use Rattle.mr_world.specs.declared.message.Message.{Message}
use Rattle.mr_world.specs.declared.message.Delivery.{Delivery}

-- the reply says that the leg failed
abbrev pub IsError : Reply → Type 0
IsError (Items items) = ⊥
IsError Stored = ⊥
IsError Deleted = ⊥
IsError NotFound = ⊥
IsError Error = Unit {0}
IsError (ClientError cause) = Unit {0}
IsError (ServerError cause) = Unit {0}

-- a message of the leg was delivered, and this came back
pub record WasDelivered (messages : List Message) (deliveries : List Delivery) (sheet : LegSheet) (said : LegReply) : Type 0 where
  pub message : Message
  pub number : ℕ
  pub from : ℕ
  pub there : At messages from message
  pub of_leg : message.sheet ≡ sheet
  pub replied : At deliveries number (record { message = from; reply = said })

-- so it is of each leg
abbrev pub WereDelivered : List Message → List Delivery → List LegSheet → List LegReply → Type 0
WereDelivered messages deliveries [] said = said ≡ []
WereDelivered messages deliveries (sheet ∷ sheets) [] = ⊥
WereDelivered messages deliveries (sheet ∷ sheets) (one ∷ said) = WasDelivered messages deliveries sheet one × WereDelivered messages deliveries sheets said

-- the messages of legs that travelled together were delivered, and their node replied so
pub record WereAnswered (messages : List Message) (deliveries : List Delivery) (sent : SentLeg) (reply : Reply) : Type 0 where
  pub said : List LegReply
  pub answers : AnswersSent sent reply said
  pub delivered : WereDelivered messages deliveries (legs_of sent) said

-- so it was, or the reply is an error
abbrev pub WasAnswered : List Message → List Delivery → SentLeg → Reply → Type 0
WasAnswered messages deliveries sent reply = WereAnswered messages deliveries sent reply ⊎ IsError reply

-- the bytes are replies to what was sent, in its order
abbrev pub AreReplies : List Message → List Delivery → List SentLeg → List ℕ → Type 0
AreReplies messages deliveries [] bytes = bytes ≡ []
AreReplies messages deliveries (sent ∷ legs) bytes =
    (reply : Reply) × (after : List ℕ) × WasAnswered messages deliveries sent reply × IsValidReply reply
    × (bytes ≡ canonical_reply reply ++ after) × AreReplies messages deliveries legs after

-- what is asked for a leg and for those that travel with it
abbrev pub request_of : SentLeg → Request
request_of sent = request_with sent.leg.command sent.others

-- the message of a leg to this node
pub record IsMessage (messages : List Message) (node : ℕ) (sheet : LegSheet) : Type 0 where
  pub number : ℕ
  pub there : At messages number (record { sheet = sheet; node = node })

-- each is a get, where there are more than one
abbrev pub AreGets : LegSheet → List LegSheet → Type 0
AreGets leg [] = Unit {0}
AreGets leg (other ∷ others) = AllByRecursion (λ (sheet : LegSheet). is_get sheet.command ≡ true) (leg ∷ other ∷ others)

-- a leg that is on its way to this node, with those that travel with it
pub record IsGoing (messages : List Message) (node : ℕ) (sent : SentLeg) : Type 0 where
  pub there : AllByRecursion (IsMessage messages node) (legs_of sent)
  pub gets : AreGets sent.leg sent.others
  pub valid : IsValidRequest (request_of sent)

-- the bytes are the requests of these, which are on their way to this node, in their order
pub record AreRequests (messages : List Message) (node : ℕ) (legs : List SentLeg) (bytes : List ℕ) : Type 0 where
  pub texts : bytes ≡ flat_map text_of legs
  pub sent : AllByRecursion (IsGoing messages node) legs

-- the legs of a link: the first were answered, and their replies are on the way back; the others are on the way to the node
pub record FlowsAt (messages : List Message) (deliveries : List Delivery) (node : ℕ) (legs : List SentLeg) (back forth : List ℕ) : Type 0 where
  pub returning : List SentLeg
  pub going : List SentLeg
  pub splits : legs ≡ returning ++ going
  pub replies : AreReplies messages deliveries returning back
  pub requests : AreRequests messages node going forth

-- these legs are of requests of this proxy
abbrev pub SheetsAreOf : ℕ → List LegSheet → Type 0
SheetsAreOf proxy sheets = AllByRecursion (λ (sheet : LegSheet). sheet.id.op.proxy ≡ proxy) sheets

-- so are all that were sent
abbrev pub AreOf : ℕ → List SentLeg → Type 0
AreOf proxy legs = AllByRecursion (λ (sent : SentLeg). SheetsAreOf proxy (legs_of sent)) legs
