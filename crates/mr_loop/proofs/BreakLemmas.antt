-- A link that breaks once it has taken replies.
use Rattle.std.proofs.Common.{◌≡◌, ◌≢◌, ℕ, ◌⊎◌, inl, inr, Bool, true, false, ◌||◌, IsTrue, List, ◌∷◌, ◌++◌, Err, refl, ap, ◌∙◌, subst}
use Rattle.mr_text.specs.Stream.{ReaderView, FeedIs}
use Rattle.mr_text.specs.declared.error.TextError.{TextError}
use Rattle.mr_text.specs.declared.error.TextError.TheVariants.{LineTooLong, BadKey, BadNumber, WrongWords, DataTooLong, BadDataEnd, UnknownCommand, Truncated, Closed, OutOfMemory}
use Rattle.mr_loop.specs.declared.link.Link.{Link}
use Rattle.mr_loop.specs.declared.link.LinkEnd.{LinkEnd}
use Rattle.mr_loop.specs.declared.link.LinkEnd.TheVariants.{Whole, Surplus, Mismatch, Complaint, Refused, Down}
use Rattle.mr_loop.specs.Events.{FrontView, after_all}
use Rattle.mr_loop.specs.Counts.{legs_lost, break_counted}
use Rattle.mr_loop.specs.Links.{down_link}
use Rattle.mr_loop.specs.Returning.{HasTaken, TakesBytes, TakesComplaint, Breaks, give_ups, standing}
use Rattle.mr_loop.specs.steps.Returning.{TakesReplies}

-- why bytes aren't taken
pub unfed : (old new : ReaderView) (rest piece : List ℕ) (refusal : TextError) → FeedIs old new rest piece (Err refusal)
    → (refusal ≡ OutOfMemory) ⊎ ((refusal ≡ Closed) × IsTrue (old.closed || old.ended))
unfed old new rest piece Closed f = inr (refl, f.0)
unfed old new rest piece LineTooLong f = inl f.0
unfed old new rest piece BadKey f = inl f.0
unfed old new rest piece BadNumber f = inl f.0
unfed old new rest piece WrongWords f = inl f.0
unfed old new rest piece DataTooLong f = inl f.0
unfed old new rest piece BadDataEnd f = inl f.0
unfed old new rest piece (UnknownCommand closes) f = inl f.0
unfed old new rest piece Truncated f = inl f.0
unfed old new rest piece OutOfMemory f = inl f.0

not_shut : (closed ended : Bool) → closed ≡ false → ended ≡ false → ¬ IsTrue (closed || ended)
not_shut true ended c e t = let no : true ≡ false = c in cc
not_shut false true c e t = let no : true ≡ false = e in cc
not_shut false false c e t = let no : false ≡ true = t in cc

abbrev fed_link : Link → ReaderView → Link
fed_link old reader = record old { reader = reader }

-- what breaks is the old link with what replies have left of it
stood : (now : ℕ) (old link : Link) (between : FrontView) (new : Link) (front' : FrontView) → link.is_up ≡ old.is_up
    → Breaks now link between new front' → Breaks now (standing link.legs link.counts old) between new front'
stood now old link between new front' up b = record {
  given_up = b.given_up;
  down = b.down ∙ ap (λ u. down_link (break_counted u (legs_lost now link.legs link.counts))) up;
}

-- what replies did, and that the link broke then
pub breaks_so : (now : ℕ) (piece : List ℕ) (old : Link) (front : FrontView) (reader : ReaderView) (end : LinkEnd) (link : Link) (between : FrontView) (new : Link)
    (front' : FrontView) → old.is_up ≡ true → reader.kept ≡ old.reader.kept ++ piece → reader.closed ≡ false → reader.ended ≡ false
    → TakesReplies now (fed_link old reader) front end link between → end ≢ Whole → Breaks now link between new front'
    → TakesBytes now piece old front end new front'
breaks_so now piece old front reader Whole link between new front' up kept closed ended t ne b = absurd (ne refl)
breaks_so now piece old front reader Surplus link between new front' up kept closed ended t ne b =
    let P : List ℕ → Type 0 = λ x. HasTaken x old.legs front t.rest link.legs between in
    record {
      was_up = up;
      rest = t.rest;
      left = link.legs;
      counts = link.counts;
      between = between;
      taken = subst P kept t.taken;
      counted = t.counted;
      next = t.next;
      breaks = stood now old link between new front' t.same_state b;
    }
breaks_so now piece old front reader Mismatch link between new front' up kept closed ended t ne b =
    let P : List ℕ → Type 0 = λ x. HasTaken x old.legs front t.rest (t.sent ∷ link.legs) t.between in
    record {
      was_up = up;
      rest = t.rest;
      left = t.sent ∷ link.legs;
      counts = t.counts;
      between = t.between;
      taken = subst P kept t.taken;
      counted = t.counted;
      next = t.next;
      breaks = record {
        given_up = b.given_up ∙ ap (λ f. after_all (give_ups link.legs) f) t.happens;
        down = b.down ∙ ap (λ u. down_link (break_counted u (legs_lost now link.legs link.counts))) t.same_state
            ∙ ap (λ k. down_link (break_counted old.is_up (legs_lost now link.legs k))) t.lost;
      };
    }
breaks_so now piece old front reader Complaint link between new front' up kept closed ended t ne b =
    let P : List ℕ → Type 0 = λ x. TakesComplaint x old.legs front link.legs between in
    record {
      was_up = up;
      left = link.legs;
      counts = link.counts;
      between = between;
      taken = subst P kept t.taken;
      counted = t.counted;
      breaks = stood now old link between new front' t.same_state b;
    }
breaks_so now piece old front reader (Refused refusal) link between new front' up kept closed ended (inl t) ne b =
    let P : List ℕ → Type 0 = λ x. HasTaken x old.legs front t.rest link.legs between in
    inl (record {
      was_up = up;
      rest = t.rest;
      left = link.legs;
      counts = link.counts;
      between = between;
      taken = subst P kept t.taken;
      counted = t.counted;
      next = t.next;
      breaks = stood now old link between new front' t.same_state b;
    })
breaks_so now piece old front reader (Refused refusal) link between new front' up kept closed ended (inr shut) ne b =
    absurd (not_shut reader.closed reader.ended closed ended shut)
breaks_so now piece old front reader Down link between new front' up kept closed ended t ne b = absurd t
