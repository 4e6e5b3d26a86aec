-- The services that a watch asks for their metrics.
use Rattle.std.specs.Prelude.{◌≡◌, ℕ, Bool, true, false, not, List, [], ◌∷◌, ◌++◌, map, All, Option, Some, None, IsSomeAnd, option_map, option_and_then, Vec, if◌then◌else◌}
use Rattle.std.specs.Str.{bytes_eq}
use Rattle.mr_watch.specs.Told.{NodeSaid, ProxySaid, Said, ByProxy, ByNode, proxy_said, said_in}
use Rattle.mr_watch.specs.declared.look.ProxySeen.{ProxySeen}
use Rattle.mr_looks.specs.declared.answers.Answer.{Answer}
use Rattle.mr_looks.specs.declared.last_lines.Unreached.{Unreached}
use Rattle.mr_looks.specs.declared.posts.Kind.{Kind}
use Rattle.mr_looks.specs.declared.posts.Kind.TheVariants.{Unknown, Proxy, Node}
use Rattle.mr_looks.specs.declared.posts.Post.{Post}

-- where they are to tell
abbrev pub address_of : Post → List ℕ
address_of post = post.address.now

-- the addresses of services, in order
abbrev pub addresses_of : List Post → List (List ℕ)
addresses_of posts = map address_of posts

-- what an answer tells, where there was one
abbrev pub bytes_of : {Z : Type 0} → Option (Vec ℕ Z) → Option (List ℕ)
bytes_of text = option_map (λ bytes. bytes.items) text

-- what an answer tells, where it is what a service tells
abbrev pub said_by : Answer → Option Said
said_by answer = option_and_then said_in (bytes_of answer.text)

-- what a service told that gave this answer, or that wasn't asked
abbrev pub told_in : Option Answer → Option Said
told_in answer = option_and_then said_by answer

-- what it tells of a proxy
abbrev pub told_by_proxy : Option Said → Option ProxySaid
told_by_proxy None = None
told_by_proxy (Some (ByProxy told)) = Some told
told_by_proxy (Some (ByNode told)) = None

-- what it tells of a node
abbrev pub told_by_node : Option Said → Option NodeSaid
told_by_node None = None
told_by_node (Some (ByProxy told)) = None
told_by_node (Some (ByNode told)) = Some told

-- what a service is that was something, and then told this
abbrev pub kind_after : Kind → Option Said → Kind
kind_after before None = before
kind_after before (Some (ByProxy told)) = Proxy
kind_after before (Some (ByNode told)) = Node

-- the service never told anything that a service tells
abbrev pub is_unknown : Kind → Bool
is_unknown Unknown = true
is_unknown Proxy = false
is_unknown Node = false

-- the service told last that it is a proxy
abbrev pub is_proxy : Kind → Bool
is_proxy Unknown = false
is_proxy Proxy = true
is_proxy Node = false

-- the service told last that it is a node
abbrev pub is_node : Kind → Bool
is_node Unknown = false
is_node Proxy = false
is_node Node = true

-- the address of a service that never told anything that a service tells
abbrev pub unreached_address : Post → List (List ℕ)
unreached_address post = if is_unknown post.kind then address_of post ∷ [] else []

-- the addresses of all such services, in their order
abbrev pub unreached_addresses : List Post → List (List ℕ)
unreached_addresses [] = []
unreached_addresses (post ∷ posts) = unreached_address post ++ unreached_addresses posts

-- the addresses of services that were never reached
abbrev pub addresses_of_unreached : List Unreached → List (List ℕ)
addresses_of_unreached services = map (λ service. service.address.now) services

-- a proxy as a look saw it, what it told by its bytes
pub record ProxyShown : Type 0 where
  pub address : List ℕ
  pub told : Option ProxySaid
  pub known : Bool
  pub asked : ℕ
  pub answered : ℕ

-- a proxy that a look saw, as contracts see it
abbrev pub proxy_shown : ProxySeen → ProxyShown
proxy_shown proxy = record {
  address = proxy.address.now;
  told = option_map proxy_said proxy.told;
  known = proxy.known;
  asked = proxy.asked;
  answered = proxy.answered;
}

-- the proxies that a look saw, as contracts see them
abbrev pub all_shown : List ProxySeen → List ProxyShown
all_shown proxies = map proxy_shown proxies

-- what an answer is shown as, of one that is known to be a proxy or not
abbrev pub answer_shown : Bool → Answer → ProxyShown
answer_shown known answer = record {
  address = answer.address.now;
  told = told_by_proxy (said_by answer);
  known = known;
  asked = answer.asked;
  answered = answer.answered;
}

-- what a service is shown as that wasn't asked
abbrev pub silence_shown : Post → ProxyShown
silence_shown post = record { address = address_of post; told = None; known = is_proxy post.kind; asked = 0; answered = 0 }

-- what a service is shown as that gave this answer, or that wasn't asked: it is known where it told last what a proxy tells
abbrev pub shown_by : Post → Option Answer → ProxyShown
shown_by post None = silence_shown post
shown_by post (Some answer) = answer_shown (is_proxy post.kind) answer

-- a service that is no node, as this look saw it
abbrev pub proxy_now : Post → List ProxyShown
proxy_now post = if is_node post.kind then [] else shown_by post post.answer ∷ []

-- all services but nodes, in their order, as this look saw them
abbrev pub proxies_now : List Post → List ProxyShown
proxies_now [] = []
proxies_now (post ∷ posts) = proxy_now post ++ proxies_now posts

-- a service that is no node, as the look before saw it
abbrev pub proxy_before : Post → List ProxyShown
proxy_before post = if is_node post.kind then [] else shown_by post post.earlier ∷ []

-- all services but nodes, in their order, as the look before saw them
abbrev pub proxies_before : List Post → List ProxyShown
proxies_before [] = []
proxies_before (post ∷ posts) = proxy_before post ++ proxies_before posts

-- those of the look before; none where this is the first one
abbrev pub earlier_proxies : Bool → List Post → List ProxyShown
earlier_proxies first posts = if first then [] else proxies_before posts

-- what a node of this name told, where it was told by one
abbrev pub if_named : List ℕ → Option NodeSaid → Option NodeSaid
if_named name None = None
if_named name (Some told) = if bytes_eq told.address name then Some told else None

-- what a service told at this look, where it is a node of this name
abbrev pub node_told : List ℕ → Post → Option NodeSaid
node_told name post = if is_node post.kind then if_named name (told_by_node (told_in post.answer)) else None

-- the first one, or else the other
abbrev pub first_of : Option NodeSaid → Option NodeSaid → Option NodeSaid
first_of None other = other
first_of (Some told) other = Some told

-- what the first of the services told that is a node of this name
abbrev pub node_among : List ℕ → List Post → Option NodeSaid
node_among name [] = None
node_among name (post ∷ posts) = first_of (node_told name post) (node_among name posts)

-- a service that wasn't asked yet
pub record IsUnasked (post : Post) : Type 0 where
  pub kind : post.kind ≡ Unknown
  pub answer : post.answer ≡ None

-- no service was asked yet
abbrev pub AreUnasked : List Post → Type 0
AreUnasked posts = All IsUnasked posts

-- a service when a look begins: what it answered at the last one is of the look before
abbrev pub begun : Post → Post
begun post = record { address = post.address; kind = post.kind; answer = None; earlier = post.answer }

-- it was asked, at its own address, and is what it told last
pub record IsAsked (old new : Post) : Type 0 where
  pub address : new.address ≡ old.address
  pub earlier : new.earlier ≡ old.earlier
  pub asked : IsSomeAnd new.answer (λ answer. answer.address ≡ old.address)
  pub kind : new.kind ≡ kind_after old.kind (told_in new.answer)

-- it was asked, or is as it was
abbrev pub IsAskedIf : Bool → Post → Post → Type 0
IsAskedIf true old new = IsAsked old new
IsAskedIf false old new = new ≡ old

-- it was asked where it isn't known to be a proxy
abbrev pub IsAskedAsOther : Post → Post → Type 0
IsAskedAsOther old new = IsAskedIf (not (is_proxy old.kind)) old new

-- it was asked where it is known to be a proxy
abbrev pub IsAskedAsProxy : Post → Post → Type 0
IsAskedAsProxy old new = IsAskedIf (is_proxy old.kind) old new
