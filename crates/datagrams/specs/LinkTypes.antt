-- The link of each link type that is read.
use Rattle.std.specs.Prelude.{ℕ, ◌||◌, if◌then◌else◌, nat_eq}
use Rattle.datagrams.specs.declared.link.Link.{Link}
use Rattle.datagrams.specs.declared.link.Link.TheVariants.{Cooked1, Cooked2, Ethernet, Loop, Null}
use Rattle.datagrams.specs.declared.link.Link.TheVariants.{Other, Raw}

abbrev pub link_of : ℕ → Link
link_of type =
    if nat_eq type 0 then Null
    else if nat_eq type 1 then Ethernet
    else if nat_eq type 12 || nat_eq type 14 || nat_eq type 101
    || nat_eq type 228 || nat_eq type 229 then Raw
    else if nat_eq type 108 then Loop
    else if nat_eq type 113 then Cooked1
    else if nat_eq type 276 then Cooked2
    else Other
