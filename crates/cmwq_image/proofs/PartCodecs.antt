-- The parts of an image: what is read of each is what is written.
use Rattle.std.proofs.Common.{◌≡◌, ℕ, ◌<◌, ◌≤◌, List, [], ◌∷◌, refl, sym, ap, subst, ◌∙◌, arith}
use Rattle.std.specs.Int.{w8, w16, w32}
use Rattle.std.specs.Prelude.{IsTrue}
use Rattle.cmwq_types.specs.Name.{is_name}
use Rattle.cmwq_types.specs.declared.scenario.Flags.{Flags}
use Rattle.cmwq_types.specs.declared.scenario.QueueDecl.{QueueDecl}
use Rattle.cmwq_image.specs.Image.{in_order, number, name_field, flag_bits, all_flags, queue_image}
use Rattle.cmwq_image.specs.ImageFault.{◌>>=◌, done, read_number, read_short, read_name, flags_of, read_queue}
use Rattle.cmwq_image.specs.Versions.{IsQueueOf}
use Rattle.cmwq_types.specs.Values.{IsQueueDecl}
use Rattle.cmwq_image.proofs.Codec.{Codec, nothing, one_then}
use Rattle.cmwq_image.proofs.FieldCodecs.{InRange, numbers, names, wide8, wide16, wide32}
use Rattle.cmwq_image.proofs.FlagLemmas.{bits_again, few_flags, flags_again}

pub bytes_of : (low high : ℕ) → low ≤ high → high < 256 → Codec (read_number w8 low high) (number w8) (InRange low high)
bytes_of low high some below = numbers w8 256 low high wide8 some below

pub shorts : (low high : ℕ) → low ≤ high → high < 65536 → Codec (read_number w16 low high) (number w16) (InRange low high)
shorts low high some below = numbers w16 65536 low high wide16 some below

pub longs : (low high : ℕ) → low ≤ high → high < 4294967296 → Codec (read_number w32 low high) (number w32) (InRange low high)
longs low high some below = numbers w32 4294967296 low high wide32 some below

-- ---- queues

abbrev queue_with : List ℕ → ℕ → Flags → QueueDecl
queue_with name max flags = record { name = name; max = max; flags = flags }

abbrev made_queue : List ℕ → ℕ → ℕ → QueueDecl
made_queue name max bits = record { name = name; max = max; flags = flags_of bits }

queues_zero : (name : List ℕ) (max bits : ℕ) → bits ≤ 63
    → Codec (read_number w8 0 0 >>= λ nothing. done (made_queue name max bits)) (λ q. in_order (number w8 0 ∷ [])) (λ q. (q.name ≡ name) × (q.max ≡ max) × (flag_bits q.flags ≡ bits))
queues_zero name max bits small =
    one_then (read_number w8 0 0) (λ nothing. done (made_queue name max bits)) (λ q. 0) (number w8) (InRange 0 0)
    (λ q. []) (λ zero q. q ≡ made_queue name max bits) (λ q. in_order (number w8 0 ∷ [])) (λ q. (q.name ≡ name) × (q.max ≡ max) × (flag_bits q.flags ≡ bits))
    (bytes_of 0 0 (omega arith) (omega arith)) (λ zero fits. nothing (made_queue name max bits)) (record {
      join = λ z q fits e.
          (omega (arith, fits.1), (ap (λ (x : QueueDecl). x.name) e, ap (λ (x : QueueDecl). x.max) e, ap (λ (x : QueueDecl). flag_bits x.flags) e ∙ bits_again bits small));
      cut = λ q h.
          let flags_are : q.flags ≡ flags_of bits = sym (flags_again q.flags) ∙ ap flags_of h.2 in
          ((omega arith, omega arith), made_alike q.name name q.max max q.flags (flags_of bits) h.0 h.1 flags_are);
      written = λ q h. refl;
    })
  where
    made_alike : (n n' : List ℕ) (m m' : ℕ) (f f' : Flags) → n ≡ n' → m ≡ m' → f ≡ f' → queue_with n m f ≡ queue_with n' m' f'
    made_alike n n' m m' f f' a b c = ap (λ (x : List ℕ). queue_with x m f) a ∙ ap (λ x. queue_with n' x f) b ∙ ap (λ (x : Flags). queue_with n' m' x) c

queues_bits : (version : ℕ) (name : List ℕ) (max : ℕ)
    → Codec (read_number w8 0 (all_flags version) >>= λ bits. read_number w8 0 0 >>= λ nothing. done (made_queue name max bits))
    (λ q. in_order (number w8 (flag_bits q.flags) ∷ number w8 0 ∷ [])) (λ q. (q.name ≡ name) × (q.max ≡ max) × IsQueueOf version q)
queues_bits version name max =
    one_then (read_number w8 0 (all_flags version)) (λ bits. read_number w8 0 0 >>= λ nothing. done (made_queue name max bits)) (λ q. flag_bits q.flags) (number w8) (InRange 0 (all_flags version))
    (λ q. in_order (number w8 0 ∷ [])) (λ bits q. (q.name ≡ name) × (q.max ≡ max) × (flag_bits q.flags ≡ bits))
    (λ q. in_order (number w8 (flag_bits q.flags) ∷ number w8 0 ∷ [])) (λ q. (q.name ≡ name) × (q.max ≡ max) × IsQueueOf version q)
    (bytes_of 0 (all_flags version) (omega arith) (omega (arith, few_flags version))) (λ bits fits. queues_zero name max bits (omega (arith, fits.1, few_flags version))) (record {
      join = λ bits q fits h. (h.2, (h.0, h.1, subst (λ n. n ≤ all_flags version) (sym h.2) fits.1));
      cut = λ q h. ((omega arith, h.2), (h.0, h.1, refl));
      written = λ q h. refl;
    })

queues_max : (version : ℕ) (name : List ℕ)
    → Codec (read_short >>= λ max. read_number w8 0 (all_flags version) >>= λ bits. read_number w8 0 0 >>= λ nothing. done (made_queue name max bits))
    (λ q. in_order (number w16 q.max ∷ number w8 (flag_bits q.flags) ∷ number w8 0 ∷ [])) (λ q. (q.name ≡ name) × (q.max ≤ 65535) × IsQueueOf version q)
queues_max version name =
    one_then read_short (λ max. read_number w8 0 (all_flags version) >>= λ bits. read_number w8 0 0 >>= λ nothing. done (made_queue name max bits)) (λ q. q.max) (number w16) (InRange 0 65535)
    (λ q. in_order (number w8 (flag_bits q.flags) ∷ number w8 0 ∷ [])) (λ max q. (q.name ≡ name) × (q.max ≡ max) × IsQueueOf version q)
    (λ q. in_order (number w16 q.max ∷ number w8 (flag_bits q.flags) ∷ number w8 0 ∷ [])) (λ q. (q.name ≡ name) × (q.max ≤ 65535) × IsQueueOf version q)
    (shorts 0 65535 (omega arith) (omega arith)) (λ max fits. queues_bits version name max) (record {
      join = λ max q fits h. (h.1, (h.0, omega (arith, h.1, fits.1), h.2));
      cut = λ q h. ((omega arith, h.1), (h.0, refl, h.2));
      written = λ q h. refl;
    })

abbrev pub QueueFits : ℕ → QueueDecl → Type 0
QueueFits version q = IsQueueDecl q × IsQueueOf version q

pub queues : (version : ℕ) → Codec (read_queue version) queue_image (QueueFits version)
unfolding read_queue
queues version =
    one_then read_name (λ name. read_short >>= λ max. read_number w8 0 (all_flags version) >>= λ bits. read_number w8 0 0 >>= λ nothing. done (made_queue name max bits)) (λ q. q.name) name_field (λ name. IsTrue (is_name name))
    (λ q. in_order (number w16 q.max ∷ number w8 (flag_bits q.flags) ∷ number w8 0 ∷ [])) (λ name q. (q.name ≡ name) × (q.max ≤ 65535) × IsQueueOf version q) queue_image (QueueFits version)
    names (λ name fits. queues_max version name) (record {
      join = λ name q fits h. (h.0, (record { name = ap is_name h.0 ∙ fits; max = omega (arith, h.1) }, h.2));
      cut = λ q h. (h.0.name, (refl, omega (arith, h.0.max), h.1));
      written = λ q h. refl;
    })
