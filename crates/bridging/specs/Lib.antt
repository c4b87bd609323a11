pub mod BridgeLaws
