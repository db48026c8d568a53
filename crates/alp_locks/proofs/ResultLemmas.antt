-- a fact that holds on either result
use Rattle.std.proofs.Common.{Result, Ok, Err, OnOk, OnErr}

pub either : {A E : Type 0} (r : Result A E) (P Q G : Type 0) → OnOk r P → OnErr r Q → (P → G) → (Q → G) → G
either (Ok x) P Q G a b f g = f a
either (Err e) P Q G a b f g = g b

pub on-ok : {A E : Type 0} (r : Result A E) (P Q : Type 0) → OnOk r P → (P → Q) → OnOk r Q
on-ok (Ok x) P Q a f = f a
on-ok (Err e) P Q a f = tt

pub on-err : {A E : Type 0} (r : Result A E) (P Q : Type 0) → OnErr r P → (P → Q) → OnErr r Q
on-err (Ok x) P Q a f = tt
on-err (Err e) P Q a f = f a

pub both : {A E : Type 0} (r : Result A E) (P Q : Type 0) → OnOk r P → OnOk r Q → OnOk r (P × Q)
both (Ok x) P Q a b = (a, b)
both (Err e) P Q a b = tt
