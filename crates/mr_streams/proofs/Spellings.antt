-- Of two spellings that the same bytes begin with both are of one item, where no spelling is a proper prefix of another.
use Rattle.std.proofs.Common.{◌≡◌, ◌≢◌, ℕ, inl, inr, List, [], ◌∷◌, ◌++◌, sym, ap, ◌∙◌, subst}
use Rattle.mr_text.specs.Canonical.{canonical_reply}
use Rattle.mr_text.specs.Replies.{SpellsReply}
use Rattle.mr_text.specs.Valid.{IsValidReply}
use Rattle.mr_text.specs.declared.reply.Reply.{Reply}
use Rattle.mr_text.specs.declared.reply.Reply.TheVariants.{Stored}
use Rattle.mr_streams.proofs.Lists.{IsEarlierCut, two_cuts}

-- no spelling is a proper prefix of another, and no bytes spell two items
abbrev pub ArePrefixFree : {Item : Type 0} → (List ℕ → Item → Type 0) → Type 0
ArePrefixFree {Item} Spells = (bytes after : List ℕ) (item other : Item) → Spells bytes item → Spells (bytes ++ after) other → (after ≡ []) × (item ≡ other)

earlier_is_same : {Item : Type 0} (Spells : List ℕ → Item → Type 0) → ArePrefixFree Spells → (a b x y : List ℕ) (m n : Item)
    → Spells a m → Spells b n → IsEarlierCut a x b y → (m ≡ n) × (x ≡ y)
earlier_is_same Spells free a b x y m n one other cut =
    let both = free a cut.0 m n one (subst (λ bytes. Spells bytes n) cut.1 other) in
    (both.1, cut.2 ∙ ap (λ t. t ++ y) both.0)

-- both are of one item, and what stands behind them is the same
pub one_spelling : {Item : Type 0} (Spells : List ℕ → Item → Type 0) → ArePrefixFree Spells → (a b x y : List ℕ) (m n : Item)
    → Spells a m → Spells b n → a ++ x ≡ b ++ y → (m ≡ n) × (x ≡ y)
one_spelling Spells free a b x y m n one other same =
    elim (two_cuts a x b y same) [
      | inl cut ↦ earlier_is_same Spells free a b x y m n one other cut
      | inr cut ↦ (let both = earlier_is_same Spells free b a y x n m other one cut in (sym both.0, sym both.1))
    ]

-- where some item has a spelling that isn't empty none has an empty one
pub some_bytes : {Item : Type 0} (Spells : List ℕ → Item → Type 0) → ArePrefixFree Spells → (a text x : List ℕ) (m n : Item)
    → Spells a m → Spells text n → text ≢ [] → a ++ x ≢ []
some_bytes Spells free [] text x m n one other some none = some (free [] text m n one other).0
some_bytes Spells free (z ∷ a) text x m n one other some none = cc

-- what is known of the texts of replies
pub record ReplyLaws : Type 0 where
  pub free : ArePrefixFree SpellsReply
  pub reads : (reply : Reply) → IsValidReply reply → SpellsReply (canonical_reply reply) reply

-- no reply is read of no bytes
pub reply_has_bytes : ReplyLaws → (a x : List ℕ) (reply : Reply) → SpellsReply a reply → a ++ x ≢ []
reply_has_bytes laws a x reply one =
    let some : canonical_reply Stored ≢ [] = λ e. cc in
    some_bytes SpellsReply laws.free a (canonical_reply Stored) x reply Stored one (laws.reads Stored tt) some

-- what is read first is the reply whose text stands first
pub first_reply : ReplyLaws → (a x y : List ℕ) (reply other : Reply) → SpellsReply a reply → IsValidReply other → a ++ x ≡ canonical_reply other ++ y
    → (reply ≡ other) × (x ≡ y)
first_reply laws a x y reply other one valid same =
    one_spelling SpellsReply laws.free a (canonical_reply other) x y reply other one (laws.reads other valid) same
