-- The events that JSON values are.
use Rattle.std.specs.Prelude.{ℕ, ◌+◌, List, [], ◌∷◌, if◌then◌else◌, Result, Ok, Err, codes}
use Rattle.std.specs.Str.{bytes_eq}
use Rattle.serde_json.specs.Data.{Data}
use Rattle.mr_history.specs.declared.op_id.OpId.{OpId}
use Rattle.mr_world.specs.declared.event.Event.{Event}
use Rattle.mr_world.specs.declared.event.Event.TheVariants.{Clock, Client, Deliver, Return, GiveUp, NodeRestart, ProxyRestart}
use Rattle.mr_shown.specs.declared.format.Format.{Format}
use Rattle.mr_configs.specs.Checking.{◌>>=◌}
use Rattle.mr_configs.specs.Fields.{Text, object_check, field, whole_number, text_of, list_of}
use Rattle.mr_scripts.specs.Numbers.{small_number}
use Rattle.mr_scripts.specs.Requests.{request_of}
use Rattle.mr_scripts.specs.Texts.{node_name_of}
use Rattle.mr_configs.specs.declared.error.PlanError.{PlanError}
use Rattle.mr_configs.specs.declared.error.PlanError.TheVariants.{WrongKind, BadEvent}

-- the three numbers of a request's name
abbrev pub op_of_parts : List Data → Result OpId PlanError
op_of_parts (proxy ∷ incarnation ∷ count ∷ []) =
    small_number proxy >>= λ proxy.
    whole_number incarnation >>= λ incarnation.
    whole_number count >>= λ number.
    Ok (record { proxy = proxy; incarnation = incarnation; number = number })
op_of_parts parts = Err WrongKind

-- the name of a request that a value is
abbrev pub op_of : Data → Result OpId PlanError
op_of value = list_of value >>= op_of_parts

-- the keys of the event `clock`
abbrev pub clock_keys : List Text
clock_keys = codes "do" ∷ codes "proxy" ∷ codes "reading" ∷ []

-- the event `clock`: a proxy's clock shows a reading
abbrev pub clock_of : Data → Result Event PlanError
clock_of value =
    object_check clock_keys value >>= λ _.
    field (codes "proxy") value >>= small_number >>= λ proxy.
    field (codes "reading") value >>= whole_number >>= λ reading.
    Ok (Clock proxy reading)

-- the keys of the event `client`
abbrev pub client_keys : List Text
client_keys = codes "do" ∷ codes "proxy" ∷ codes "request" ∷ []

-- the event `client`: a request comes to a proxy
abbrev pub client_of : Format → Data → Result Event PlanError
client_of format value =
    object_check client_keys value >>= λ _.
    field (codes "proxy") value >>= small_number >>= λ proxy.
    field (codes "request") value >>= request_of format >>= λ request.
    Ok (Client proxy request)

-- the keys of the event `deliver`
abbrev pub deliver_keys : List Text
deliver_keys = codes "do" ∷ codes "message" ∷ codes "now" ∷ []

-- the event `deliver`: a message is performed at this moment
abbrev pub deliver_of : Data → Result Event PlanError
deliver_of value =
    object_check deliver_keys value >>= λ _.
    field (codes "message") value >>= whole_number >>= λ message.
    field (codes "now") value >>= whole_number >>= λ now.
    Ok (Deliver message now)

-- the keys of the event `return`
abbrev pub return_keys : List Text
return_keys = codes "do" ∷ codes "reply" ∷ []

-- the event `return`: a reply comes back
abbrev pub return_of : Data → Result Event PlanError
return_of value =
    object_check return_keys value >>= λ _.
    field (codes "reply") value >>= whole_number >>= λ reply.
    Ok (Return reply)

-- the keys of the event `give_up`
abbrev pub give_up_keys : List Text
give_up_keys = codes "do" ∷ codes "op" ∷ []

-- the event `give_up`: a request is given up
abbrev pub give_up_of : Data → Result Event PlanError
give_up_of value =
    object_check give_up_keys value >>= λ _.
    field (codes "op") value >>= op_of >>= λ op.
    Ok (GiveUp op)

-- the keys of the event `node_restart`
abbrev pub node_restart_keys : List Text
node_restart_keys = codes "do" ∷ codes "node" ∷ []

-- the event `node_restart`: a node loses what it holds
abbrev pub node_restart_of : Data → Result Event PlanError
node_restart_of value =
    object_check node_restart_keys value >>= λ _.
    field (codes "node") value >>= node_name_of >>= λ node.
    Ok (NodeRestart node)

-- the keys of the event `proxy_restart`
abbrev pub proxy_restart_keys : List Text
proxy_restart_keys = codes "do" ∷ codes "proxy" ∷ []

-- the event `proxy_restart`: a proxy forgets its requests
abbrev pub proxy_restart_of : Data → Result Event PlanError
proxy_restart_of value =
    object_check proxy_restart_keys value >>= λ _.
    field (codes "proxy") value >>= small_number >>= λ proxy.
    Ok (ProxyRestart proxy)

-- the event of this kind that a value is; WrongKind where there is no such kind
abbrev pub event_of_kind : Format → Data → Text → Result Event PlanError
event_of_kind format value kind =
    if bytes_eq kind (codes "clock") then clock_of value
    else if bytes_eq kind (codes "client") then client_of format value
    else if bytes_eq kind (codes "deliver") then deliver_of value
    else if bytes_eq kind (codes "return") then return_of value
    else if bytes_eq kind (codes "give_up") then give_up_of value
    else if bytes_eq kind (codes "node_restart") then node_restart_of value
    else if bytes_eq kind (codes "proxy_restart") then proxy_restart_of value
    else Err WrongKind

-- The event that a value is in a format. Which keys it may have goes by what is done, so that is looked at before them.
abbrev pub event_of : Format → Data → Result Event PlanError
event_of format value = field (codes "do") value >>= text_of >>= event_of_kind format value

-- whatever is wrong with an event, only its index is told
abbrev pub event_at : ℕ → Result Event PlanError → Result Event PlanError
event_at index (Ok event) = Ok event
event_at index (Err refusal) = Err (BadEvent index)

-- the events that values are, from this index on; the first value that is none is told
abbrev pub events_of : Format → ℕ → List Data → Result (List Event) PlanError
events_of format index [] = Ok []
events_of format index (value ∷ values) =
    event_at index (event_of format value) >>= λ event.
    events_of format (index + 1) values >>= λ events.
    Ok (event ∷ events)
