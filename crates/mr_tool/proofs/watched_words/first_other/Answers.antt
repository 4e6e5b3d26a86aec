use Rattle.std.proofs.Common.{◌≡◌, ℕ, ◌<◌, Bor, false, List, map, drop, length, slice_index_or, Option, Some, None, is_some, refl, sym, subst, inl, true≢false}
use Rattle.std.proofs.Math.Seq.{drop-cons}
use Rattle.std.specs.declared.net.socket_addr.SocketAddrV4.{SocketAddrV4}
use Rattle.mr_sockets.specs.Address.{GivesNodeAddress, HasNodeAddress}
use Rattle.mr_tool.specs.WatchedWords.{IsFirstOther}
use Rattle.mr_tool.proofs.watched_words.first_other.Goals as goal

-- no address was given, so there is none
none_there : (word : List ℕ) (address : Option SocketAddrV4) → GivesNodeAddress word address → is_some address ≡ false → ¬ HasNodeAddress word
none_there word None gives is has = gives has.0 has.1
none_there word (Some address) gives is has = true≢false is

-- a word that is no address is the first one of these, where those before it are addresses
first_here : (words : List (Bor (List ℕ))) (place : ℕ) (word : Bor (List ℕ)) → place < length words
    → ((other : List ℕ) → IsFirstOther (map (λ (w : Bor (List ℕ)). w.now) (drop place words)) other → IsFirstOther (map (λ (w : Bor (List ℕ)). w.now) words) other)
    → (¬ HasNodeAddress (slice_index_or words place word).now) → IsFirstOther (map (λ (w : Bor (List ℕ)). w.now) words) (slice_index_or words place word).now
first_here words place word within before is_none =
    let other = (slice_index_or words place word).now in
    before other (subst (λ (rest : List (Bor (List ℕ))). IsFirstOther (map (λ (w : Bor (List ℕ)). w.now) rest) other)
    (sym (drop-cons words place word within)) (inl (is_none, refl)))

-- src/watched_words.rt:17:13
pub returns-then-is_none : goal.returns-then-is_none
returns-then-is_none c =
    let is : is_some c.node_address.result ≡ false = c.if-is_none.ensures in
    first_here c.args.words.now c.loop-word.word-index _ c.loop-word-test.true c.loop-word.invariant.1
    (none_there _ c.node_address.result c.node_address.ensures is)
