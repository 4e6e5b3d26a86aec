-- What bytes that come over a link do.
use Rattle.std.specs.Prelude.{◌≡◌, ℕ, ◌⊎◌, Bool, true, false, ◌||◌, IsTrue, List, [], ◌∷◌, ◌++◌, map}
use Rattle.mr_text.specs.Replies.{SpellsReply, RefusesReply}
use Rattle.mr_text.specs.Stream.{BeginsWith, IsUnfinished}
use Rattle.mr_text.specs.declared.error.TextError.{TextError}
use Rattle.mr_text.specs.declared.error.TextError.TheVariants.{Closed, OutOfMemory}
use Rattle.mr_text.specs.declared.reply.Reply.{Reply}
use Rattle.mr_text.specs.declared.reply.Reply.TheVariants.{Items, Stored, Deleted, NotFound, Error, ClientError, ServerError}
use Rattle.mr_join.specs.declared.leg_reply.LegReply.{LegReply}
use Rattle.mr_proxy.specs.declared.step.Step.TheVariants.{Take, GiveUp}
use Rattle.mr_proxy.specs.NodeReplies.{IsAnswer, AnswersGets}
use Rattle.mr_proxy.specs.NodeRequests.{key_of}
use Rattle.mr_proxy.specs.declared.sheet.LegSheet.{LegSheet}
use Rattle.mr_loop.specs.declared.link.Link.{Link}
use Rattle.mr_loop.specs.declared.link.LinkEnd.{LinkEnd}
use Rattle.mr_loop.specs.declared.link.LinkEnd.TheVariants.{Whole, Surplus, Mismatch, Complaint, Refused, Down}
use Rattle.mr_loop.specs.declared.link_counts.LinkCounts.{LinkCounts}
use Rattle.mr_loop.specs.declared.sent_legs.SentLeg.{SentLeg}
use Rattle.mr_loop.specs.Counts.{CountsCarried, legs_lost, break_counted}
use Rattle.mr_loop.specs.Events.{FrontView, Event, after_all}
use Rattle.mr_loop.specs.Links.{down_link, legs_of}

-- the bytes are these items, one after the other, and then the rest
abbrev pub Reads : {Item : Type 0} → (List ℕ → Item → Type 0) → List Item → List ℕ → List ℕ → Type 0
Reads Spells [] bytes rest = rest ≡ bytes
Reads Spells (item ∷ items) bytes rest = (after : List ℕ) × BeginsWith Spells bytes item after × Reads Spells items after rest

-- the core takes what a node said of a leg of this client's request
abbrev pub taking : ℕ → LegSheet → LegReply → Event
taking client sheet said = Event.Does client (Take (record { sheet = sheet; reply = said }))

-- so of each leg, in order
abbrev pub takings : ℕ → List LegSheet → List LegReply → List Event
takings client [] said = []
takings client (sheet ∷ sheets) [] = []
takings client (sheet ∷ sheets) (said ∷ more) = taking client sheet said ∷ takings client sheets more

-- the reply says this of a leg by itself, or of gets that travelled together
abbrev pub Answers : LegSheet → List LegSheet → Reply → List LegReply → Type 0
Answers leg [] reply said = (one : LegReply) × IsAnswer leg.command reply one × (said ≡ one ∷ [])
Answers leg (other ∷ others) reply said = AnswersGets (map key_of (leg ∷ other ∷ others)) reply said

-- so it does of a leg that was sent, and of those that travelled with it
abbrev pub AnswersSent : SentLeg → Reply → List LegReply → Type 0
AnswersSent sent reply said = Answers sent.leg sent.others reply said

-- they took what the reply says of them, or it is no answer to what they asked
abbrev pub TakesSent : SentLeg → Reply → FrontView → Bool → FrontView → Type 0
TakesSent sent reply front true front' =
    (said : List LegReply) × AnswersSent sent reply said × (front' ≡ after_all (takings sent.client (legs_of sent) said) front)
TakesSent sent reply front false front' = ((said : List LegReply) → ¬ AnswersSent sent reply said) × (front' ≡ front)

-- the core gives the request of a leg up
abbrev pub giving_up : SentLeg → Event
giving_up sent = Event.Does sent.client (GiveUp sent.leg.id.op)

-- the node doesn't know what it was asked, so that nobody knows what it takes for the next request
abbrev pub is_complaint : Reply → Bool
is_complaint (Items items) = false
is_complaint Stored = false
is_complaint Deleted = false
is_complaint NotFound = false
is_complaint Error = true
is_complaint (ClientError cause) = true
is_complaint (ServerError cause) = false

-- The k-th reply is that of what went as the k-th: what happens by them, and what is left.
abbrev pub TakesAll : List SentLeg → List Reply → List Event → List SentLeg → Type 0
TakesAll legs [] events left = (events ≡ []) × (left ≡ legs)
TakesAll [] (reply ∷ replies) events left = ⊥
TakesAll (sent ∷ legs) (reply ∷ replies) events left =
    (said : List LegReply) × (others : List Event)
    × AnswersSent sent reply said × (events ≡ takings sent.client (legs_of sent) said ++ others) × TakesAll legs replies others left

-- So many replies were read from the front of these bytes, and each was the reply of the leg of its place.
pub record HasTaken (bytes : List ℕ) (legs : List SentLeg) (front : FrontView) (rest : List ℕ) (left : List SentLeg) (front' : FrontView) : Type 0 where
  pub replies : List Reply
  pub events : List Event
  pub reads : Reads SpellsReply replies bytes rest
  pub takes : TakesAll legs replies events left
  pub happens : front' ≡ after_all events front

-- what happens when a link breaks: the request of each leg that has no reply is given up, in order
abbrev pub give_ups : List SentLeg → List Event
give_ups legs = map giving_up legs

-- what is counted of a link that breaks: the legs that have no reply are lost, and its connection is gone
abbrev pub after_break : ℕ → Link → LinkCounts
after_break now link = break_counted link.is_up (legs_lost now link.legs link.counts)

-- the link breaks at this time, and nothing of it survives but its counts
pub record Breaks (now : ℕ) (link : Link) (front : FrontView) (new : Link) (front' : FrontView) : Type 0 where
  pub given_up : front' ≡ after_all (give_ups link.legs) front
  pub down : new ≡ down_link (after_break now link)

-- the link while these legs have no reply, with these counts
abbrev pub standing : List SentLeg → LinkCounts → Link → Link
standing left counts link = record link { legs = left; counts = counts }

module _ (now : ℕ) (piece : List ℕ) (old : Link) (front : FrontView) where
  -- all replies that are whole were taken
  pub record TakesWhole (new : Link) (front' : FrontView) : Type 0 where
    pub was_up : old.is_up ≡ true
    pub taken : HasTaken (old.reader.kept ++ piece) old.legs front new.reader.kept new.legs front'
    pub counted : CountsCarried now old.legs new.legs old.counts new.counts
    pub unfinished : IsUnfinished SpellsReply RefusesReply new.reader.kept
    pub same_out : new.out ≡ old.out
    pub same_state : new.is_up ≡ old.is_up

  -- some replies were taken, and then the link broke; what came next, and the legs that were left
  pub record TakesSome (Next : List ℕ → List SentLeg → Type 0) (new : Link) (front' : FrontView) : Type 0 where
    pub was_up : old.is_up ≡ true
    pub rest : List ℕ
    pub left : List SentLeg
    pub counts : LinkCounts
    pub between : FrontView
    pub taken : HasTaken (old.reader.kept ++ piece) old.legs front rest left between
    pub counted : CountsCarried now old.legs left old.counts counts
    pub next : Next rest left
    pub breaks : Breaks now (standing left counts old) between new front'

-- a reply comes next that no leg awaits
abbrev pub IsSurplus : List ℕ → List SentLeg → Type 0
IsSurplus rest left = ((reply : Reply) × (after : List ℕ) × BeginsWith SpellsReply rest reply after) × (left ≡ [])

-- a reply comes next that is no answer to the first leg
pub record IsMismatch (rest : List ℕ) (left : List SentLeg) : Type 0 where
  pub sent : SentLeg
  pub later : List SentLeg
  pub reply : Reply
  pub after : List ℕ
  pub first : left ≡ sent ∷ later
  pub next : BeginsWith SpellsReply rest reply after
  pub other : (said : List LegReply) → ¬ AnswersSent sent reply said

-- the reply that was taken last is a complaint
pub record TakesComplaint (bytes : List ℕ) (legs : List SentLeg) (front : FrontView) (left : List SentLeg) (front' : FrontView) : Type 0 where
  pub rest : List ℕ
  pub before : List SentLeg
  pub between : FrontView
  pub sent : SentLeg
  pub reply : Reply
  pub said : List LegReply
  pub after : List ℕ
  pub taken : HasTaken bytes legs front rest before between
  pub first : before ≡ sent ∷ left
  pub next : BeginsWith SpellsReply rest reply after
  pub complains : is_complaint reply ≡ true
  pub answers : AnswersSent sent reply said
  pub happens : front' ≡ after_all (takings sent.client (legs_of sent) said) between

-- what comes next is refused, or memory for it was
abbrev pub IsRefused : TextError → List ℕ → List SentLeg → Type 0
IsRefused refusal rest left = (refusal ≡ OutOfMemory) ⊎ RefusesReply refusal rest

-- What bytes that came over a link do. They are taken reply by reply, each as that of the first leg that has none.
module _ (now : ℕ) (piece : List ℕ) (old : Link) (front : FrontView) where
  pub record BreaksAtComplaint (new : Link) (front' : FrontView) : Type 0 where
    pub was_up : old.is_up ≡ true
    pub left : List SentLeg
    pub counts : LinkCounts
    pub between : FrontView
    pub taken : TakesComplaint (old.reader.kept ++ piece) old.legs front left between
    pub counted : CountsCarried now old.legs left old.counts counts
    pub breaks : Breaks now (standing left counts old) between new front'

  -- the reader takes no more, or memory for the bytes was refused: nothing of them was taken
  pub record BreaksAtOnce (refusal : TextError) (new : Link) (front' : FrontView) : Type 0 where
    pub was_up : old.is_up ≡ true
    pub why : (refusal ≡ OutOfMemory) ⊎ ((refusal ≡ Closed) × IsTrue (old.reader.closed || old.reader.ended))
    pub breaks : Breaks now old front new front'

  abbrev pub TakesBytes : LinkEnd → Link → FrontView → Type 0
  TakesBytes Whole new front' = TakesWhole now piece old front new front'
  TakesBytes Surplus new front' = TakesSome now piece old front IsSurplus new front'
  TakesBytes Mismatch new front' = TakesSome now piece old front IsMismatch new front'
  TakesBytes Complaint new front' = BreaksAtComplaint new front'
  TakesBytes (Refused refusal) new front' = TakesSome now piece old front (IsRefused refusal) new front' ⊎ BreaksAtOnce refusal new front'
  TakesBytes Down new front' = (old.is_up ≡ false) × (new ≡ old) × (front' ≡ front)
