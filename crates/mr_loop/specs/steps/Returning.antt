-- How the replies that a link's reader holds are taken, before the link breaks.
use Rattle.std.specs.Prelude.{[], reverse, Option, Some, None, if◌then◌else◌}
use Rattle.std.specs.Str.{bytes_eq}
use Rattle.mr_text.specs.declared.item.Item.{Item}
use Rattle.mr_join.specs.declared.leg_reply.LegReply.{LegReply}
use Rattle.mr_join.specs.declared.leg_reply.LegReply.TheVariants.{Miss}
use Rattle.mr_proxy.specs.NodeReplies.{hit}
use Rattle.std.specs.Prelude.{◌≡◌, ℕ, ◌⊎◌, ◌||◌, IsTrue, List, ◌∷◌}
use Rattle.mr_text.specs.Replies.{SpellsReply, RefusesReply}
use Rattle.mr_text.specs.Stream.{IsUnfinished}
use Rattle.mr_loop.specs.declared.link.Link.{Link}
use Rattle.mr_loop.specs.declared.link.LinkEnd.{LinkEnd}
use Rattle.mr_loop.specs.declared.link.LinkEnd.TheVariants.{Whole, Surplus, Mismatch, Complaint, Refused, Down}
use Rattle.mr_loop.specs.declared.link_counts.LinkCounts.{LinkCounts}
use Rattle.mr_loop.specs.declared.sent_legs.SentLeg.{SentLeg}
use Rattle.mr_loop.specs.Counts.{CountsCarried, leg_lost}
use Rattle.mr_loop.specs.Events.{FrontView, after_event}
use Rattle.mr_loop.specs.Returning.{giving_up, HasTaken, TakesComplaint, IsSurplus, IsMismatch, IsRefused}

-- the items that come next: this one, and those of a list that has them from the last one on
abbrev pub coming : Option Item → List Item → List Item
coming None later = []
coming (Some item) later = item ∷ reverse later

-- what is said of a get of this key where these items come next
abbrev pub said_next : List ℕ → List Item → LegReply
said_next key [] = Miss
said_next key (item ∷ items) = if bytes_eq item.key key then hit item else Miss

module _ (now : ℕ) (old : Link) (front : FrontView) where
  -- some replies were taken; what came next, and the legs that were left
  pub record StopsAt (Next : List ℕ → List SentLeg → Type 0) (new : Link) (front' : FrontView) : Type 0 where
    pub rest : List ℕ
    pub taken : HasTaken old.reader.kept old.legs front rest new.legs front'
    pub counted : CountsCarried now old.legs new.legs old.counts new.counts
    pub same_state : new.is_up ≡ old.is_up
    pub next : Next rest new.legs

  -- the first leg has a reply that is no answer to it, and its request is given up
  pub record StopsAtMismatch (new : Link) (front' : FrontView) : Type 0 where
    pub rest : List ℕ
    pub sent : SentLeg
    pub between : FrontView
    pub counts : LinkCounts
    pub taken : HasTaken old.reader.kept old.legs front rest (sent ∷ new.legs) between
    pub counted : CountsCarried now old.legs (sent ∷ new.legs) old.counts counts
    pub lost : new.counts ≡ leg_lost now sent counts
    pub same_state : new.is_up ≡ old.is_up
    pub next : IsMismatch rest (sent ∷ new.legs)
    pub happens : front' ≡ after_event (giving_up sent) between

  -- the reply that was taken last is a complaint
  pub record StopsAtComplaint (new : Link) (front' : FrontView) : Type 0 where
    pub taken : TakesComplaint old.reader.kept old.legs front new.legs front'
    pub counted : CountsCarried now old.legs new.legs old.counts new.counts
    pub same_state : new.is_up ≡ old.is_up

  pub record StopsWhole (new : Link) (front' : FrontView) : Type 0 where
    pub taken : HasTaken old.reader.kept old.legs front new.reader.kept new.legs front'
    pub counted : CountsCarried now old.legs new.legs old.counts new.counts
    pub unfinished : IsUnfinished SpellsReply RefusesReply new.reader.kept
    pub same_out : new.out ≡ old.out
    pub same_state : new.is_up ≡ old.is_up

  abbrev pub TakesReplies : LinkEnd → Link → FrontView → Type 0
  TakesReplies Whole new front' = StopsWhole new front'
  TakesReplies Surplus new front' = StopsAt IsSurplus new front'
  TakesReplies Mismatch new front' = StopsAtMismatch new front'
  TakesReplies Complaint new front' = StopsAtComplaint new front'
  TakesReplies (Refused refusal) new front' = StopsAt (IsRefused refusal) new front' ⊎ IsTrue (old.reader.closed || old.reader.ended)
  TakesReplies Down new front' = ⊥
