use Rattle.std.proofs.Common.{◌≡◌, ◌++◌, drop, map}
use Rattle.mr_looks.specs.Posts.{AreUnasked, addresses_of}
use Rattle.mr_looks.proofs.posts.posts_at.Given as goal

-- the services so far, and the addresses of the rest
abbrev pub invariant-loop-address : goal.invariant-loop-address
invariant-loop-address l = record {
  addresses : addresses_of l.posts.items ++ map (λ address. address.now) (drop l.address-index l.addresses) ≡ map (λ address. address.now) l.addresses;
  unasked : AreUnasked l.posts.items;
}
