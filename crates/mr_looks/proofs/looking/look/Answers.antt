use Rattle.std.proofs.Common.{◌∙◌, List, ap, subst}
use Rattle.std.specs.List.{AllZip}
use Rattle.mr_looks.proofs.PostLemmas.{begun_addresses}
use Rattle.mr_looks.specs.Posts.{IsAskedAsOther, addresses_of}
use Rattle.mr_looks.specs.declared.posts.Post.{Post}
use Rattle.mr_looks.proofs.looking.look.Goals as goal

pub returns-clause-looked : goal.returns-clause-looked
returns-clause-looked g c = record {
  between = c.ask_others.new.posts;
  others = subst (λ (p : List Post). AllZip IsAskedAsOther p c.ask_others.new.posts) c.begin_look.ensures c.in_ok-ask_others.ensures.asked;
  counts = c.in_ok-nodes.ensures.told;
  proxies = c.in_ok-ask_proxies.ensures.asked;
}

pub returns-clause-addresses : goal.returns-clause-addresses
returns-clause-addresses g c =
    c.ask_proxies.ensures.addresses ∙ c.ask_others.ensures.addresses ∙ ap addresses_of c.begin_look.ensures ∙ begun_addresses _

pub returns-in_err-ask_others-clause-addresses : goal.returns-in_err-ask_others-clause-addresses
returns-in_err-ask_others-clause-addresses g c = c.ask_others.ensures.addresses ∙ ap addresses_of c.begin_look.ensures ∙ begun_addresses _

pub returns-in_err-nodes-clause-addresses : goal.returns-in_err-nodes-clause-addresses
returns-in_err-nodes-clause-addresses g c = c.ask_others.ensures.addresses ∙ ap addresses_of c.begin_look.ensures ∙ begun_addresses _

pub returns-in_err-ask_proxies-clause-addresses : goal.returns-in_err-ask_proxies-clause-addresses
returns-in_err-ask_proxies-clause-addresses g c =
    c.ask_proxies.ensures.addresses ∙ c.ask_others.ensures.addresses ∙ ap addresses_of c.begin_look.ensures ∙ begun_addresses _
