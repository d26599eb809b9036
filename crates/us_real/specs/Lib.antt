pub mod Real
pub mod TcpLinks
