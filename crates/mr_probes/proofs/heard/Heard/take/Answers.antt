use Rattle.std.proofs.Common.{◌≡◌, ◌∙◌, ℕ, List, ◌++◌, refl, sym, ap, subst}
use Rattle.mr_text.specs.Replies.{SpellsReply, RefusesReply}
use Rattle.mr_text.specs.Stream.{BeginsWith, IsUnfinished}
use Rattle.mr_probes.specs.Heard.{HearsSo, coming_of}
use Rattle.mr_probes.specs.declared.heard.Coming.{Coming}
use Rattle.mr_probes.proofs.HeardLemmas.{fed, held_none, refused}
use Rattle.mr_probes.proofs.heard.Heard.take.Goals as goal

pub returns-in-Ok-None : goal.returns-in-Ok-None
returns-in-Ok-None c =
    let became = fed c.self.inside.reader c.feed.new.self c.args.bytes.now c.feed.result (c.feed.ensures.piece c.self.inside.reader.kept refl) (sym c.is_err.ensures.value ∙ c.if-is_err.false) in
    let stands : c.feed.new.self.kept ≡ c.args.self.now ++ c.args.bytes.now = became.stands ∙ ap (λ (k : List ℕ). k ++ c.args.bytes.now) c.self.view_is in
    let answer = rw c.in-Ok-None.field-0-is at c.in-Ok-None.ensures.answer in
    let n = answer c.feed.new.self.kept refl in
    (subst (λ (k : List ℕ). IsUnfinished SpellsReply RefusesReply k) stands n.1, n.3.stands ∙ stands)

pub returns-in-Ok-Some : goal.returns-in-Ok-Some
returns-in-Ok-Some c =
    let became = fed c.self.inside.reader c.feed.new.self c.args.bytes.now c.feed.result (c.feed.ensures.piece c.self.inside.reader.kept refl) (sym c.is_err.ensures.value ∙ c.if-is_err.false) in
    let stands : c.feed.new.self.kept ≡ c.args.self.now ++ c.args.bytes.now = became.stands ∙ ap (λ (k : List ℕ). k ++ c.args.bytes.now) c.self.view_is in
    let answer = rw c.in-Ok-Some.field-0-is at c.in-Ok-Some.ensures.answer in
    let begun = rw c.in-Ok-Some.field-0-is at c.in-Ok-Some.ensures.begun in
    let n = answer c.feed.new.self.kept refl in
    let begins : BeginsWith SpellsReply (c.args.self.now ++ c.args.bytes.now) c.in-Ok-Some.reply c.next.new.self.kept =
    subst (λ (k : List ℕ). BeginsWith SpellsReply (c.args.self.now ++ c.args.bytes.now) c.in-Ok-Some.reply k) (sym n.3.stands)
    (subst (λ (k : List ℕ). BeginsWith SpellsReply k c.in-Ok-Some.reply n.1) stands n.2) in
    rw c.in-Ok-Some.reply-is (begins, held_none c.next.new.self.kept c.next.new.self.begun c.held.result begun c.held.ensures)

pub returns-in-Err : goal.returns-in-Err
returns-in-Err c =
    let became = fed c.self.inside.reader c.feed.new.self c.args.bytes.now c.feed.result (c.feed.ensures.piece c.self.inside.reader.kept refl) (sym c.is_err.ensures.value ∙ c.if-is_err.false) in
    let stands : c.feed.new.self.kept ≡ c.args.self.now ++ c.args.bytes.now = became.stands ∙ ap (λ (k : List ℕ). k ++ c.args.bytes.now) c.self.view_is in
    let said = refused c.feed.new.self c.next.new.self c.in-Err.refusal became.is_closed became.is_ended (c.in-Err.ensures.answer c.feed.new.self.kept refl) c.new-in-Err.result.kept c.new-in-Err.ensures.stands.stands in
    let here = subst (λ (k : List ℕ). HearsSo k (coming_of c.in-Err.refusal) c.new-in-Err.result.kept) stands said in
    subst (λ (x : Coming). HearsSo (c.args.self.now ++ c.args.bytes.now) x c.new-in-Err.result.kept) (sym c.coming_of.ensures) here
