-- Default values have the kinds that they are made for.
use Rattle.std.proofs.Common.{◌≡◌, List, [], ◌∷◌, map, refl}
use Rattle.type_desc.specs.declared.desc.Kind.{Kind}
use Rattle.type_desc.specs.declared.desc.Kind.TheVariants.{Int, Text, Bytes, Ref, Lazy, Refs}
use Rattle.entity_form.specs.Values.{kind_of, default_of}

kind_of-default_of : (k : Kind) → kind_of (default_of k) ≡ k
kind_of-default_of Int = refl
kind_of-default_of Text = refl
kind_of-default_of Bytes = refl
kind_of-default_of Ref = refl
kind_of-default_of Lazy = refl
kind_of-default_of Refs = refl

pub kinds_of-defaults : (ks : List Kind) → map kind_of (map default_of ks) ≡ ks
kinds_of-defaults [] = refl
kinds_of-defaults (k ∷ ks) = rw (kind_of-default_of k, kinds_of-defaults ks) refl
