-- A finite map that has a value at every key: at a key that it does not hold, the default. No default is kept.
use Rattle.std.proofs.Common.{◌≡◌, Bool, true, false, cond, refl, sym, ap, ◌∙◌, subst, true≢false}
use Rattle.std.specs.Prelude.{Option, Some, None, unwrap_or, if◌then◌else◌}
use Rattle.std.specs.Cmp.{IsTotalOrder, eq_by_cmp_equiv}
use Rattle.std.specs.FinMap.{FinMap, IsAntisymmetric, get, insert, remove, get-insert, get-remove, same_map}
use Rattle.std.specs.Ordering.{eq_by_cmp, is_eq}
use Rattle.std.specs.declared.cmp.Ordering.{Ordering}
use Rattle.std.specs.declared.cmp.Ordering.TheVariants.{Less, Equal, Greater}

module _ {K X : Type 0} {R : K → K → Ordering} (default : X) where
  -- the value at a key
  abbrev pub value_at : FinMap R X → K → X
  value_at m k = unwrap_or (get m k) default

  -- the map with a value at a key
  abbrev pub with_value : (X → Bool) → FinMap R X → K → X → FinMap R X
  with_value is_default m k x = if is_default x then remove m k else insert m k x

  -- the map with the value at a key changed
  abbrev pub changed : (X → Bool) → FinMap R X → K → (X → X) → FinMap R X
  changed is_default m k f = with_value is_default m k (f (value_at m k))

tied : (r : Ordering) → is_eq r ≡ true → r ≡ Equal
tied Less e = absurd (cc)
tied Equal e = refl
tied Greater e = absurd (cc)

module _ {K : Type 0} {R : K → K → Ordering} (o : IsTotalOrder R) (same : IsAntisymmetric R) where
  pub key_same : (q k : K) → eq_by_cmp R q k ≡ true → q ≡ k
  key_same q k e = same q k (tied (R q k) e)

pub key_itself : {K : Type 0} {R : K → K → Ordering} (o : IsTotalOrder R) (k : K) → eq_by_cmp R k k ≡ true
key_itself o k = (eq_by_cmp_equiv o).refl k

module _ {K X : Type 0} {R : K → K → Ordering} (o : IsTotalOrder R) (same : IsAntisymmetric R) where
  module _ (default : X) (is_default : X → Bool) where
    -- what is held of a value
    abbrev pub held : X → Option X
    held x = cond (is_default x) None (Some x)

    pub get-with_value : (m : FinMap R X) (k : K) (x : X) (q : K) → get (with_value default is_default m k x) q ≡ cond (eq_by_cmp R q k) (held x) (get m q)
    get-with_value m k x q = on (is_default x)
      where
        on : (b : Bool) → get (cond b (remove m k) (insert m k x)) q ≡ cond (eq_by_cmp R q k) (cond b None (Some x)) (get m q)
        on true = get-remove o m k q
        on false = get-insert o m k x q

    module _ (is : (x : X) → is_default x ≡ true → x ≡ default) where
      value-held : (x : X) → unwrap_or (held x) default ≡ x
      value-held x = on (is_default x) refl
        where
          on : (b : Bool) → is_default x ≡ b → unwrap_or (cond b None (Some x)) default ≡ x
          on true e = sym (is x e)
          on false e = refl

      pub value_at-with_value : (m : FinMap R X) (k : K) (x : X) (q : K)
          → value_at default (with_value default is_default m k x) q ≡ cond (eq_by_cmp R q k) x (value_at default m q)
      value_at-with_value m k x q = ap (λ r. unwrap_or r default) (get-with_value m k x q) ∙ on (eq_by_cmp R q k)
        where
          on : (b : Bool) → unwrap_or (cond b (held x) (get m q)) default ≡ cond b x (value_at default m q)
          on true = value-held x
          on false = refl

      -- what two changes leave at a key
      pub two_changes : FinMap R X → K → K → (X → X) → (X → X) → K → Option X
      two_changes m a b f g q =
          cond (eq_by_cmp R q b) (held (g (cond (eq_by_cmp R b a) (f (value_at default m a)) (value_at default m b))))
          (cond (eq_by_cmp R q a) (held (f (value_at default m a))) (get m q))

      get-two_changes : (m : FinMap R X) (a b : K) (f g : X → X) (q : K)
          → get (changed default is_default (changed default is_default m a f) b g) q ≡ two_changes m a b f g q
      unfolding two_changes
      get-two_changes m a b f g q =
          let once = changed default is_default m a f in
          get-with_value once b (g (value_at default once b)) q
          ∙ ap (λ r. cond (eq_by_cmp R q b) (held (g r)) (get once q)) (value_at-with_value m a (f (value_at default m a)) b)
          ∙ ap (λ r. cond (eq_by_cmp R q b) (held (g (cond (eq_by_cmp R b a) (f (value_at default m a)) (value_at default m b)))) r)
          (get-with_value m a (f (value_at default m a)) q)

      -- two changes that may be exchanged at each value give one map in either order
      turned : (m : FinMap R X) (a b : K) (f g : X → X) → ((x : X) → g (f x) ≡ f (g x)) → (q : K) → two_changes m a b f g q ≡ two_changes m b a g f q
      unfolding two_changes
      turned m a b f g turn q = on _ _ _ _ refl refl refl refl
        where
          at_a : X
          at_a = value_at default m a

          at_b : X
          at_b = value_at default m b

          on : (x y v w : Bool) → eq_by_cmp R q b ≡ x → eq_by_cmp R q a ≡ y → eq_by_cmp R b a ≡ v → eq_by_cmp R a b ≡ w
              → cond x (held (g (cond v (f at_a) at_b))) (cond y (held (f at_a)) (get m q))
              ≡ cond y (held (f (cond w (g at_b) at_a))) (cond x (held (g at_b)) (get m q))
          on false false v w ex ey ev ew = refl
          on true true true true ex ey ev ew = ap held (turn at_a ∙ ap (λ k. f (g (value_at default m k))) (sym (key_same o same b a ev)))
          on true true false w ex ey ev ew = absurd (true≢false (sym (subst (λ k. eq_by_cmp R k a ≡ true) (key_same o same q b ex) ey) ∙ ev))
          on true true true false ex ey ev ew = absurd (true≢false (sym (subst (λ k. eq_by_cmp R k b ≡ true) (key_same o same q a ey) ex) ∙ ew))
          on true false false w ex ey ev ew = refl
          on true false true w ex ey ev ew = absurd (true≢false (sym (subst (λ k. eq_by_cmp R k a ≡ true) (sym (key_same o same q b ex)) ev) ∙ ey))
          on false true v false ex ey ev ew = refl
          on false true v true ex ey ev ew = absurd (true≢false (sym (subst (λ k. eq_by_cmp R k b ≡ true) (sym (key_same o same q a ey)) ew) ∙ ex))

      pub changed-commutes : (m : FinMap R X) (a b : K) (f g : X → X) → ((x : X) → g (f x) ≡ f (g x))
          → changed default is_default (changed default is_default m a f) b g ≡ changed default is_default (changed default is_default m b g) a f
      changed-commutes m a b f g turn = same_map o same _ _ (λ q. get-two_changes m a b f g q ∙ turned m a b f g turn q
          ∙ sym (get-two_changes m b a g f q))
